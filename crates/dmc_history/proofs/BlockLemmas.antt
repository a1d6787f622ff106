-- What blocks that are filled in order say of the events in them.
use Rattle.std.proofs.Common.{◌≡◌, ℕ, zero, suc, ◌+◌, ◌-◌, ◌*◌, ◌/◌, ◌%◌, ◌<◌, ◌≤◌, List, [], ◌∷◌, ◌++◌, length, get_or, min, refl, sym, ap, ◌∙◌, arith, inl, inr, append_assoc, set}
use Rattle.std.specs.Prelude.{slice_get, option_and_then, vec_capacity}
use Rattle.std.specs.Global.{Vec}
use Rattle.std.proofs.lemmas.List.{length-append, append-nil, nil_from_length}
use Rattle.std.proofs.lemmas.Bool.{cases_lt}
use Rattle.std.proofs.lemmas.Option.{slice_get_past}
use Rattle.dmc_history.specs.Log.{EndSlots, block_size}
use Rattle.dmc_history.specs.Blocks.{events_of, room_of, AreFilled}

-- an element of the first of two lists
slice_get-front : {X : Type 0} (xs ys : List X) (n : ℕ) → n < length xs → slice_get (xs ++ ys) n ≡ slice_get xs n
slice_get-front [] ys n h = absurd (omega arith)
slice_get-front (x ∷ xs) ys zero h = refl
slice_get-front (x ∷ xs) ys (suc n) h = slice_get-front xs ys n (omega arith)

-- an element of the second of two lists
slice_get-back : {X : Type 0} (xs ys : List X) (n : ℕ) → length xs ≤ n → slice_get (xs ++ ys) n ≡ slice_get ys (n - length xs)
slice_get-back [] ys n h = let e : n - 0 ≡ n = omega arith in rw e refl
slice_get-back (x ∷ xs) ys zero h = absurd (omega arith)
slice_get-back (x ∷ xs) ys (suc n) h =
    let e : suc n - length (x ∷ xs) ≡ n - length xs = omega arith in
    slice_get-back xs ys n (omega arith) ∙ sym (ap (slice_get ys) e)

module _ {E : Type 0} where
  pub length-events_of : (blocks : List (Vec E)) (len : ℕ) → AreFilled blocks len → length (events_of blocks) ≡ len
  length-events_of [] len h = sym h
  length-events_of (b ∷ bs) len h =
      omega (arith, length-append b.items (events_of bs), length-events_of bs (len - 1024) h.2, h.1)

  -- the blocks have memory for the events
  pub len-le : (blocks : List (Vec E)) (len : ℕ) → AreFilled blocks len → len ≤ 1024 * length blocks
  len-le [] len h = omega (arith, h)
  len-le (b ∷ bs) len h = omega (arith, len-le bs (len - 1024) h.2)

  -- an event, by its block and its index there
  slice_get_in : (blocks : List (Vec E)) (len k j : ℕ) → AreFilled blocks len → j < 1024
      → slice_get (events_of blocks) (1024 * k + j) ≡ option_and_then (λ b. slice_get b.items j) (slice_get blocks k)
  slice_get_in [] len k j h in_block = refl
  slice_get_in (b ∷ bs) len zero j h in_block =
      let e : 1024 * 0 + j ≡ j = omega arith in
      rw e (elim (cases_lt j (length b.items)) [
        | inl before ↦ slice_get-front b.items (events_of bs) j before
        | inr past ↦
            slice_get_past (b.items ++ events_of bs) j (omega (arith, length-append b.items (events_of bs), length-events_of bs (len - 1024) h.2, h.1))
            ∙ sym (slice_get_past b.items j past)
      ])
  slice_get_in (b ∷ bs) len (suc k) j h in_block =
      let rest = length-events_of bs (len - 1024) h.2 in
      let there = slice_get_in bs (len - 1024) k j h.2 in_block in
      slice_get-back b.items (events_of bs) (1024 * suc k + j) (omega (arith, h.1))
      ∙ (elim (cases_lt len 1024) [
        | inl short ↦
            slice_get_past (events_of bs) (1024 * suc k + j - length b.items) (omega arith)
            ∙ sym (slice_get_past (events_of bs) (1024 * k + j) (omega arith)) ∙ there
        | inr long ↦
            (let e : 1024 * suc k + j - length b.items ≡ 1024 * k + j = omega (arith, h.1) in
            ap (slice_get (events_of bs)) e ∙ there)
      ])

  -- an event, by its index
  pub slice_get-events_of : (blocks : List (Vec E)) (len i : ℕ) → AreFilled blocks len
      → slice_get (events_of blocks) i ≡ option_and_then (λ b. slice_get b.items (i % 1024)) (slice_get blocks (i / 1024))
  slice_get-events_of blocks len i h =
      let e : 1024 * (i / 1024) + i % 1024 ≡ i = omega arith in
      sym (ap (slice_get (events_of blocks)) e) ∙ slice_get_in blocks len (i / 1024) (i % 1024) h (omega arith)

  -- the block that takes the next event has a slot for it
  next_in : (blocks : List (Vec E)) (len k j : ℕ) (d : Vec E) → AreFilled blocks len → j < 1024 → len ≡ 1024 * k + j
      → k < length blocks → length (get_or blocks k d).items < vec_capacity (get_or blocks k d)
  next_in [] len k j d h in_block e within = absurd (omega arith)
  next_in (b ∷ bs) len zero j d h in_block e within = omega (arith, h.0, h.1)
  next_in (b ∷ bs) len (suc k) j d h in_block e within = next_in bs (len - 1024) k j d h.2 in_block (omega arith) (omega arith)

  pub next_has_place : (blocks : List (Vec E)) (len : ℕ) (d : Vec E) → AreFilled blocks len → len < 1024 * length blocks
      → length (get_or blocks (len / 1024) d).items < vec_capacity (get_or blocks (len / 1024) d)
  next_has_place blocks len d h within =
      next_in blocks len (len / 1024) (len % 1024) d h (omega arith) (omega arith) (omega arith)

  -- an event more in that block is an event more at the end
  events_of-set_in : (blocks : List (Vec E)) (len k j : ℕ) (d b : Vec E) (event : E) → AreFilled blocks len → j < 1024
      → len ≡ 1024 * k + j → k < length blocks → b.items ≡ (get_or blocks k d).items ++ event ∷ []
      → events_of (set blocks k b) ≡ events_of blocks ++ event ∷ []
  events_of-set_in [] len k j d b event h in_block e within is = absurd (omega arith)
  events_of-set_in (a ∷ bs) len zero j d b event h in_block e within is =
      let none : events_of bs ≡ [] = nil_from_length (events_of bs) (omega (arith, length-events_of bs (len - 1024) h.2)) in
      rw (none, is) (simp append-nil)
  events_of-set_in (a ∷ bs) len (suc k) j d b event h in_block e within is =
      rw (events_of-set_in bs (len - 1024) k j d b event h.2 in_block (omega arith) (omega arith) is)
      (sym (append_assoc a.items (events_of bs) (event ∷ [])))

  pub events_of-set : (blocks : List (Vec E)) (len : ℕ) (d b : Vec E) (event : E) → AreFilled blocks len
      → len < 1024 * length blocks → b.items ≡ (get_or blocks (len / 1024) d).items ++ event ∷ []
      → events_of (set blocks (len / 1024) b) ≡ events_of blocks ++ event ∷ []
  events_of-set blocks len d b event h within is =
      events_of-set_in blocks len (len / 1024) (len % 1024) d b event h (omega arith) (omega arith) (omega arith) is

  AreFilled-set_in : (blocks : List (Vec E)) (len k j : ℕ) (d b : Vec E) → AreFilled blocks len → j < 1024
      → len ≡ 1024 * k + j → k < length blocks → length b.items ≡ length (get_or blocks k d).items + 1
      → vec_capacity (get_or blocks k d) ≤ vec_capacity b → AreFilled (set blocks k b) (len + 1)
  AreFilled-set_in [] len k j d b h in_block e within longer holds = absurd (omega arith)
  AreFilled-set_in (a ∷ bs) len zero j d b h in_block e within longer holds =
      let same : len + 1 - 1024 ≡ len - 1024 = omega arith in
      (omega (arith, h.0), omega (arith, h.1), rw same h.2)
  AreFilled-set_in (a ∷ bs) len (suc k) j d b h in_block e within longer holds =
      let same : len + 1 - 1024 ≡ len - 1024 + 1 = omega arith in
      (h.0, omega (arith, h.1), rw same (AreFilled-set_in bs (len - 1024) k j d b h.2 in_block (omega arith) (omega arith) longer holds))

  pub AreFilled-set : (blocks : List (Vec E)) (len : ℕ) (d b : Vec E) (event : E) → AreFilled blocks len
      → len < 1024 * length blocks → b.items ≡ (get_or blocks (len / 1024) d).items ++ event ∷ []
      → vec_capacity (get_or blocks (len / 1024) d) ≤ vec_capacity b → AreFilled (set blocks (len / 1024) b) (len + 1)
  AreFilled-set blocks len d b event h within is holds =
      let longer : length b.items ≡ length (get_or blocks (len / 1024) d).items + 1 = rw is (length-append _ _) in
      AreFilled-set_in blocks len (len / 1024) (len % 1024) d b h (omega arith) (omega arith) (omega arith) longer holds

  -- a new block at the end
  pub AreFilled-push : (blocks : List (Vec E)) (len : ℕ) (b : Vec E) → AreFilled blocks len → len ≤ 1024 * length blocks
      → b.items ≡ [] → 1024 ≤ vec_capacity b → AreFilled (blocks ++ b ∷ []) len
  AreFilled-push [] len b h within empty holds = (holds, (rw empty (omega (arith, h))), omega (arith, h))
  AreFilled-push (a ∷ bs) len b h within empty holds =
      (h.0, h.1, AreFilled-push bs (len - 1024) b h.2 (omega arith) empty holds)

  -- it has no event yet
  pub events_of-push : (blocks : List (Vec E)) (b : Vec E) → b.items ≡ [] → events_of (blocks ++ b ∷ []) ≡ events_of blocks
  events_of-push [] b empty = rw empty refl
  events_of-push (a ∷ bs) b empty = ap (λ events. a.items ++ events) (events_of-push bs b empty)

  -- if more may be filled, it makes a whole block of slots, or as many as may be
  pub room_of-push : (blocks : List (Vec E)) (b : Vec E) (len most : ℕ) → len ≤ 1024 * length blocks → len + room_of blocks len most < most
      → room_of (blocks ++ b ∷ []) len most ≡ min (room_of blocks len most + block_size) (most - len)
  room_of-push blocks b len most within fewer = omega (arith, length-append blocks (b ∷ []))

  -- the slots end with a block, or at the most events
  pub slots_end : (blocks : List (Vec E)) (len most : ℕ) → len ≤ 1024 * length blocks → len ≤ most
      → EndSlots (len + room_of blocks len most) most
  slots_end blocks len most within fewer = elim (cases_lt most (1024 * length blocks)) [
    | inl past ↦ inr (omega arith)
    | inr before ↦
        (let end : len + room_of blocks len most ≡ 1024 * length blocks = omega arith in
        inl (rw end (omega arith)))
  ]
