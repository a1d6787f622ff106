-- Sorted entries, and the map that they are.
use Rattle.std.proofs.Common.{◌≡◌, ◌≢◌, ℕ, zero, suc, ◌+◌, ◌-◌, ◌<◌, ◌≤◌, ◌⊎◌, List, [], ◌∷◌, ◌++◌, Option, Some, None, length, get_or, set, take, drop, replicate, count_by, is_some, cond, ◌==◌, refl, sym, ap, ◌∙◌, subst, inl, inr, arith, Bool, true, false, not, eqb-true, ltb-false, nat_lt, IsSomeAnd, IsSome}
use Rattle.std.specs.List.{All, AllPairs, AllWithin, insert, remove, position, prefix_len}
use Rattle.std.specs.Cmp.{IsTotalOrder}
use Rattle.std.specs.declared.cmp.Ordering.{Ordering}
use Rattle.std.specs.declared.cmp.Ordering.TheVariants.{Less, Equal, Greater}
use Rattle.std.specs.Ordering.{ordering_reverse, is_lt}
use Rattle.std.specs.List.Sorted.{IsPartitionedBy}
use Rattle.std.proofs.lemmas.Bool.{cases_lt, cases_eq, eqb-false}
use Rattle.std.proofs.lemmas.List.{length-set, length-replicate, get_or_default, get_or-set_same, get_or-set_other, set-set, set_comm, set_past, set-append_left, append-nil, replicate-append-replicate, set-get_or, take-append-drop, take_at, length-take-le}
use Rattle.std.proofs.Math.Seq.{drop-cons}
use Rattle.std.proofs.lemmas.List.Elements.{All-head, All-tail, All-cons, All-take}
use Rattle.std.proofs.lemmas.List.Sorted.{All-permutation, IsPermutation-insert}
use Rattle.std.proofs.lemmas.List.Edits.{length-insert, get_or-insert_below, get_or-insert_at, get_or-insert_above, length-remove, get_or-remove_below, get_or-remove_above}
use Rattle.std.proofs.lemmas.List.Sums.{count_by-le-length, prefix_len_passes}
use Rattle.std.proofs.lemmas.List.Folds.{sum_by-replicate}
use Rattle.std.proofs.lemmas.List.Quantifiers.{position-Some, all_pairs_remove}
use Rattle.dmc_index.specs.Index.{slot_of_key, IsEmpty, IsApart, AreApart, IsLeast, KeepsOrder, IsMapped}
use Rattle.dmc_index.specs.Entries.{slots_of, IsRising, IsSound}
use Rattle.dmc_index.specs.internal.Entries.{MapsEntries}
use Rattle.dmc_index.specs.declared.list_index.Entry.{Entry}
pub use Rattle.dmc_lemmas.proofs.Orderings.{less_if_lt}
use Rattle.dmc_lemmas.proofs.Options.{option_cases}
use Rattle.std.proofs.lemmas.Bool.{not-true}
use Rattle.dmc_index.proofs.Slots.{slot_of_key-replicate, count-set_some, count_below}

-- ---- lists

module _ {R : Type 0} where
  -- what a map holds after a write was written, or held before
  slot_of_key-set : (slots : List (Option R)) (i key : ℕ) (v : Option R) (rank : R) → slot_of_key (set slots i v) key ≡ Some rank → ((key ≡ i) × (v ≡ Some rank)) ⊎ (slot_of_key slots key ≡ Some rank)
  slot_of_key-set slots i key v rank h =
      elim (cases_eq key i) [
        | inr ne ↦ inr (sym (get_or-set_other slots i key v None ne) ∙ h)
        | inl e ↦ elim (cases_lt i (length slots)) [
          | inl l ↦ inl (e, sym (get_or-set_same slots i v None l) ∙ subst (λ k. get_or (set slots i v) k None ≡ Some rank) e h)
          | inr l ↦ inr (subst (λ s. get_or s key None ≡ Some rank) (set_past slots i v l) h)
        ]
      ]

-- ---- pairs

module _ {X : Type 0} (P : X → X → Type 0) where
  pub AllPairs-tail : (x : X) (xs : List X) → AllPairs P (x ∷ xs) → AllPairs P xs
  AllPairs-tail x xs h i j d l b = h (suc i) (suc j) d (omega arith) (omega arith)

  -- where an element of the longer list was before
  place : (xs : List X) (n : ℕ) (y : X) → n ≤ length xs → (k : ℕ) (d : X) → ((k < n) × (get_or (insert xs n y) k d ≡ get_or xs k d)) ⊎ (((k ≡ n) × (get_or (insert xs n y) k d ≡ y)) ⊎ ((n < k) × (get_or (insert xs n y) k d ≡ get_or xs (k - 1) d)))
  place xs n y within k d =
      elim (cases_lt k n) [
        | inl l ↦ inl (l, get_or-insert_below xs n y d k l within)
        | inr l ↦ elim (cases_eq k n) [
          | inl e ↦ inr (inl (e, rw e (get_or-insert_at xs n y d within)))
          | inr ne ↦
              let back : (k - 1) + 1 ≡ k = omega arith in
              let at : get_or (insert xs n y) ((k - 1) + 1) d ≡ get_or xs (k - 1) d = get_or-insert_above xs n y d (k - 1) (omega arith) within in
              inr (inr (omega arith, subst (λ m. get_or (insert xs n y) m d ≡ get_or xs (k - 1) d) back at))
        ]
      ]

  pub AllPairs-insert : (xs : List X) (n : ℕ) (y : X) → n ≤ length xs → AllPairs P xs → ((k : ℕ) (d : X) → k < n → P (get_or xs k d) y) → ((k : ℕ) (d : X) → n ≤ k → k < length xs → P y (get_or xs k d)) → AllPairs P (insert xs n y)
  AllPairs-insert xs n y within h before after i j d l b =
      let size = length-insert xs n y within in
      let moved = λ (a c a' c' : X) (p : a ≡ a') (q : c ≡ c') (w : P a' c'). subst (λ v. P v c) (sym p) (subst (λ v. P a' v) (sym q) w) in
      elim (place xs n y within i d) [
        | inl u ↦ elim (place xs n y within j d) [
          | inl v ↦ moved _ _ _ _ u.1 v.1 (h i j d l (omega arith))
          | inr (inl v) ↦ moved _ _ _ _ u.1 v.1 (before i d u.0)
          | inr (inr v) ↦ moved _ _ _ _ u.1 v.1 (h i (j - 1) d (omega arith) (omega arith))
        ]
        | inr (inl u) ↦ elim (place xs n y within j d) [
          | inl v ↦ absurd (omega arith)
          | inr (inl v) ↦ absurd (omega arith)
          | inr (inr v) ↦ moved _ _ _ _ u.1 v.1 (after (j - 1) d (omega arith) (omega arith))
        ]
        | inr (inr u) ↦ elim (place xs n y within j d) [
          | inl v ↦ absurd (omega arith)
          | inr (inl v) ↦ absurd (omega arith)
          | inr (inr v) ↦ moved _ _ _ _ u.1 v.1 (h (i - 1) (j - 1) d (omega arith) (omega arith))
        ]
      ]

All-remove : {X : Type 0} (P : X → Type 0) (xs : List X) (i : ℕ) → i < length xs → All P xs → All P (remove xs i)
All-remove P xs i l h k d m =
    let size = length-remove xs i l in
    elim (cases_lt k i) [
      | inl b ↦ subst P (sym (get_or-remove_below xs i d k b l)) (h k d (omega arith))
      | inr b ↦ subst P (sym (get_or-remove_above xs i d k b l)) (h (k + 1) d (omega arith))
    ]

-- ---- cases

pub less_from : (r s : Ordering) → s ≡ ordering_reverse r → r ≢ Equal → s ≢ Less → r ≡ Less
less_from Less s e p q = refl
less_from Equal s e p q = absurd (p refl)
less_from Greater s e p q = absurd (q e)

pub not_less_if_not_lt : (r : Ordering) → is_lt r ≡ false → r ≢ Less
not_less_if_not_lt r e q = cc (ap is_lt q)

false_test : {X : Type 0} (b : Bool) (x : X) → cond b (Some x) None ≡ None → b ≡ false
false_test true x e = cc
false_test false x e = refl

-- no element passes if none is found
not_passing : {X : Type 0} (p : X → Bool) (xs : List X) → position p xs ≡ None → (k : ℕ) (d : X) → k < length xs → p (get_or xs k d) ≡ false
not_passing p xs h k d l =
    let past = ltb-false (prefix_len (λ x. not (p x)) xs) (length xs) (false_test (nat_lt (prefix_len (λ x. not (p x)) xs) (length xs)) (prefix_len (λ x. not (p x)) xs) h) in
    not-true (p (get_or xs k d)) (prefix_len_passes (λ x. not (p x)) xs k d (omega arith))

-- the indexes by a rank, if the ranks rise
pub IsPartitionedBy-rising : {R : Type 0} {compare : R → R → Ordering} (o : IsTotalOrder compare) (es : List (Entry R)) (rank : R) → IsRising compare es → IsPartitionedBy (λ e. is_lt (compare e.rank rank)) es
IsPartitionedBy-rising {R} {compare} o es rank rising i j d l m h =
    elim (cases_eq i j) [
      | inl same ↦ subst (λ n. is_lt (compare (get_or es n d).rank rank) ≡ true) (sym same) h
      | inr ne ↦ ap is_lt (o.trans (get_or es i d).rank (get_or es j d).rank rank (rising i j d (omega arith) m) (less_if_lt (compare (get_or es j d).rank rank) h))
    ]

-- ---- the map of some entries

module _ {R : Type 0} where
  pub length-slots_of : (room : ℕ) (es : List (Entry R)) → length (slots_of room es) ≡ room
  length-slots_of room [] = length-replicate room None
  length-slots_of room (e ∷ es) = length-set (slots_of room es) e.key (Some e.rank) ∙ length-slots_of room es

  slots_of-insert : (room : ℕ) (xs ys : List (Entry R)) (e : Entry R) → All (λ x. x.key ≢ e.key) xs → slots_of room (xs ++ e ∷ ys) ≡ set (slots_of room (xs ++ ys)) e.key (Some e.rank)
  slots_of-insert room [] ys e h = refl
  slots_of-insert room (x ∷ xs) ys e h =
      ap (λ s. set s x.key (Some x.rank)) (slots_of-insert room xs ys e (All-tail (λ x. x.key ≢ e.key) x xs h)) ∙ set_comm (slots_of room (xs ++ ys)) e.key x.key (Some e.rank) (Some x.rank) (λ q. All-head (λ x. x.key ≢ e.key) x xs h (sym q))

  -- a key without an entry is not held
  absent : (room : ℕ) (es : List (Entry R)) (key : ℕ) → All (λ e. e.key ≢ key) es → slot_of_key (slots_of room es) key ≡ None
  absent room [] key h = slot_of_key-replicate room key
  absent room (e ∷ es) key h =
      get_or-set_other (slots_of room es) e.key key (Some e.rank) None (λ q. All-head (λ e. e.key ≢ key) e es h (sym q)) ∙ absent room es key (All-tail (λ e. e.key ≢ key) e es h)

  -- what is said of each entry is true of each key that is held
  held_all : (P : ℕ → R → Type 0) (room : ℕ) (es : List (Entry R)) → All (λ e. P e.key e.rank) es → (key : ℕ) (rank : R) → slot_of_key (slots_of room es) key ≡ Some rank → P key rank
  held_all P room [] h key rank q = cc (slot_of_key-replicate {X = R} room key)
  held_all P room (e ∷ es) h key rank q =
      elim (slot_of_key-set (slots_of room es) e.key key (Some e.rank) rank q) [
        | inl w ↦ let same : e.rank ≡ rank = cc in subst (λ r. P key r) same (subst (λ k. P k e.rank) (sym w.0) (All-head (λ e. P e.key e.rank) e es h))
        | inr w ↦ held_all P room es (All-tail (λ e. P e.key e.rank) e es h) key rank w
      ]

  -- each entry's key is held
  held_at : (room : ℕ) (es : List (Entry R)) → AllPairs (λ a b. a.key ≢ b.key) es → All (λ e. e.key < room) es → (i : ℕ) (d : Entry R) → i < length es → slot_of_key (slots_of room es) (get_or es i d).key ≡ Some (get_or es i d).rank
  held_at room [] h b i d l = absurd (omega arith)
  held_at room (e ∷ es) h b zero d l =
      get_or-set_same (slots_of room es) e.key (Some e.rank) None (rw length-slots_of (All-head (λ e. e.key < room) e es b))
  held_at room (e ∷ es) h b (suc i) d l =
      get_or-set_other (slots_of room es) e.key (get_or es i d).key (Some e.rank) None (λ q. h 0 (suc i) d (omega arith) l (sym q)) ∙ held_at room es (AllPairs-tail (λ a b. a.key ≢ b.key) e es h) (All-tail (λ e. e.key < room) e es b) i d (omega arith)

  pub count-slots_of : (room : ℕ) (es : List (Entry R)) → AllPairs (λ a b. a.key ≢ b.key) es → All (λ e. e.key < room) es → count_by is_some (slots_of room es) ≡ length es
  count-slots_of room [] h b = let none = sum_by-replicate (λ (o : Option R). cond (is_some o) 1 0) room None in omega (arith, none)
  count-slots_of room (e ∷ es) h b =
      let l : e.key < length (slots_of room es) = rw length-slots_of (All-head (λ e. e.key < room) e es b) in
      let none = absent room es e.key (λ k d m. λ q. h 0 (suc k) d (omega arith) (omega arith) (sym q)) in
      let rest = count-slots_of room es (AllPairs-tail (λ a b. a.key ≢ b.key) e es h) (All-tail (λ e. e.key < room) e es b) in
      omega (arith, rest, count-set_some (slots_of room es) e.key e.rank l none)

  -- more capacity
  pub slots_of-more : (room more : ℕ) (es : List (Entry R)) → All (λ e. e.key < room) es → room ≤ more → slots_of more es ≡ slots_of room es ++ replicate (more - length (slots_of room es)) None
  slots_of-more room more [] b l =
      let none : List (Option R) = replicate room None in
      let size : length none ≡ room = length-replicate room None in
      let all : room + (more - length none) ≡ more = omega arith in
      sym (replicate-append-replicate room (more - length none) None ∙ ap (λ n. replicate n None) all)
  slots_of-more room more (e ∷ es) b l =
      let old = slots_of room es in
      let size = length-set old e.key (Some e.rank) in
      let in' : e.key < length old = rw length-slots_of (All-head (λ e. e.key < room) e es b) in
      rw size (ap (λ s. set s e.key (Some e.rank)) (slots_of-more room more es (All-tail (λ e. e.key < room) e es b) l) ∙ set-append_left old (replicate (more - length old) None) e.key (Some e.rank) in')

  pub same_room : (slots : List (Option R)) (n : ℕ) → n ≤ length slots → slots ≡ slots ++ replicate (n - length slots) None
  same_room slots n l = let none : n - length slots ≡ 0 = omega arith in rw none (sym (append-nil slots))

-- ---- what the vector keeps, said of the map

module _ {R : Type 0} (compare : R → R → Ordering) (o : IsTotalOrder compare) (room capacity : ℕ) (es : List (Entry R)) (sound : IsSound compare room capacity es) where
  -- the ranks of two entries are apart
  entries_apart : (i j : ℕ) (d : Entry R) → i < length es → j < length es → i ≢ j → compare (get_or es i d).rank (get_or es j d).rank ≢ Equal
  entries_apart i j d l m ne q =
      elim (cases_lt i j) [
        | inl below ↦ cc (sound.rising i j d below m)
        | inr above ↦ cc (sound.rising j i d (omega arith) l, o.antisymm (get_or es i d).rank (get_or es j d).rank)
      ]

  pub AreApart-slots_of : AreApart compare (slots_of room es)
  AreApart-slots_of =
      held_all (λ key rank. (k : ℕ) (other : R) → k ≢ key → slot_of_key (slots_of room es) k ≡ Some other → compare rank other ≢ Equal) room es (λ i d l k other ne q. held_all (λ k other. k ≢ (get_or es i d).key → compare (get_or es i d).rank other ≢ Equal) room es (λ j d' m. rw (get_or_default es j d' d m) (λ ne'. entries_apart i j d l m (λ same. ne' (ap (λ n. (get_or es n d).key) (sym same))))) k other q ne)

  pub IsLeast-first : (d : Entry R) → 0 < length es → IsLeast compare (slots_of room es) (get_or es 0 d).key (get_or es 0 d).rank
  IsLeast-first d l = record {
    here = held_at room es sound.distinct sound.in_room 0 d l;
    below = λ k other ne q. held_all (λ k other. k ≢ (get_or es 0 d).key → compare (get_or es 0 d).rank other ≡ Less) room es (λ j d' m. rw (get_or_default es j d' d m) (λ ne'. elim (cases_eq j 0) [ inl same ↦ absurd (ne' (ap (λ n. (get_or es n d).key) same)) | inr other ↦ sound.rising 0 j d (omega arith) m ])) k other q ne;
  }

  pub held_entry : (i : ℕ) (d : Entry R) → i < length es → slot_of_key (slots_of room es) (get_or es i d).key ≡ Some (get_or es i d).rank
  held_entry = held_at room es sound.distinct sound.in_room

  pub IsEmpty-nil : length es ≤ 0 → IsEmpty (slots_of room es)
  IsEmpty-nil l key = absent room es key (λ k d m. absurd (omega arith))

  pub within_room : length es ≤ room
  within_room =
      omega (arith, count-slots_of room es sound.distinct sound.in_room, length-slots_of room es, count_by-le-length is_some (slots_of room es))

  -- ---- a place by its key

  pub held_found : (key i : ℕ) (d : Entry R) → position (λ e. e.key == key) es ≡ Some i → (i < length es) × ((get_or es i d).key ≡ key) × (slot_of_key (slots_of room es) key ≡ Some (get_or es i d).rank)
  held_found key i d h =
      let found = position-Some (λ e. e.key == key) es i d h in
      let same = eqb-true (get_or es i d).key key found.1 in
      (found.0, same, subst (λ k. slot_of_key (slots_of room es) k ≡ Some (get_or es i d).rank) same (held_at room es sound.distinct sound.in_room i d found.0))

  pub held_not_found : (key : ℕ) → position (λ e. e.key == key) es ≡ None → slot_of_key (slots_of room es) key ≡ None
  held_not_found key h = absent room es key (λ k d l. eqb-false (get_or es k d).key key (not_passing (λ e. e.key == key) es h k d l))

  pub found_if_held : (key : ℕ) (at : Option ℕ) → at ≡ position (λ e. e.key == key) es → IsSome (slot_of_key (slots_of room es) key) → IsSome at
  found_if_held key at p h =
      option_cases at (λ none. cc (subst IsSome (held_not_found key (sym p ∙ none)) h)) (λ i some. rw some refl)

  -- ---- insert

  pub short_of_room : (key : ℕ) (rank : R) → key < room → slot_of_key (slots_of room es) key ≡ None → length es < capacity
  short_of_room key rank l h =
      let below = count_below (slots_of room es) key rank (rw length-slots_of l) h in
      omega (arith, below, count-slots_of room es sound.distinct sound.in_room, length-slots_of room es, sound.memory)

  module _ (key : ℕ) (rank : R) (n : ℕ) (bound : n ≤ length es) (below : AllWithin (λ e. compare e.rank rank ≡ Less) es 0 n) (above : AllWithin (λ e. compare e.rank rank ≢ Less) es n (length es)) (vacant : slot_of_key (slots_of room es) key ≡ None) (apart : IsApart compare (slots_of room es) rank) where
    other_keys : All (λ e. e.key ≢ key) es
    other_keys k d l q = cc (held_at room es sound.distinct sound.in_room k d l, vacant)

    less : (k : ℕ) (d : Entry R) → n ≤ k → k < length es → compare rank (get_or es k d).rank ≡ Less
    less k d m l =
        less_from (compare rank (get_or es k d).rank) (compare (get_or es k d).rank rank) (o.antisymm (get_or es k d).rank rank) (apart (get_or es k d).key (get_or es k d).rank (held_at room es sound.distinct sound.in_room k d l)) (above k d m l)

    pub IsSound-insert : (e : Entry R) → e.key ≡ key → e.rank ≡ rank → key < room → (more : ℕ) → capacity ≤ more → IsSound compare room more (insert es n e)
    IsSound-insert e p q l more m = record {
      rising = AllPairs-insert (λ a b. compare a.rank b.rank ≡ Less) es n e bound sound.rising (λ k d lt. rw q (below k d (omega arith) lt)) (λ k d le lt. rw q (less k d le lt));
      distinct = AllPairs-insert (λ a b. a.key ≢ b.key) es n e bound sound.distinct (λ k d lt w. other_keys k d (omega arith) (w ∙ p)) (λ k d le lt w. other_keys k d lt (sym w ∙ p));
      in_room = All-permutation (λ x. x.key < room) (e ∷ es) (insert es n e) (IsPermutation-insert es n e) (All-cons (λ x. x.key < room) e es (rw p l) sound.in_room);
      memory = omega (arith, sound.memory, m);
    }

    pub slots_of-insert_at : (e : Entry R) → e.key ≡ key → e.rank ≡ rank → slots_of room (insert es n e) ≡ set (slots_of room es) key (Some rank)
    slots_of-insert_at e p q =
        slots_of-insert room (take n es) (drop n es) e (All-take (λ x. x.key ≢ e.key) n es (λ k d l w. other_keys k d l (w ∙ p)))
        ∙ ap (λ l. set (slots_of room l) e.key (Some e.rank)) (take-append-drop n es)
        ∙ ap (λ k. set (slots_of room es) k (Some e.rank)) p
        ∙ ap (λ r. set (slots_of room es) key (Some r)) q

  -- ---- remove

  pub IsSound-remove : (i : ℕ) → i < length es → (more : ℕ) → capacity ≤ more → IsSound compare room more (remove es i)
  IsSound-remove i l more m = record {
    rising = all_pairs_remove (λ a b. compare a.rank b.rank ≡ Less) es i l sound.rising;
    distinct = all_pairs_remove (λ a b. a.key ≢ b.key) es i l sound.distinct;
    in_room = All-remove (λ x. x.key < room) es i l sound.in_room;
    memory = omega (arith, sound.memory, m);
  }

  other_keys_left : (i : ℕ) (d : Entry R) → i < length es → All (λ x. x.key ≢ (get_or es i d).key) (remove es i)
  other_keys_left i d l k d' m =
      let size = length-remove es i l in
      elim (cases_lt k i) [
        | inl b ↦ rw (get_or-remove_below es i d' k b l, get_or_default es i d d' l) (sound.distinct k i d' b l)
        | inr b ↦ rw (get_or-remove_above es i d' k b l, get_or_default es i d d' l) (λ w. sound.distinct i (k + 1) d' (omega arith) (omega arith) (sym w))
      ]

  pub slots_of-remove : (i : ℕ) (d : Entry R) → i < length es → slots_of room (remove es i) ≡ set (slots_of room es) (get_or es i d).key None
  slots_of-remove i d l =
      let e = get_or es i d in
      let left = slots_of room (remove es i) in
      let apart = other_keys_left i d l in
      let front = subst (All (λ x. x.key ≢ e.key)) (take_at (take i es) (drop (suc i) es) i (length-take-le i es (omega arith))) (All-take (λ x. x.key ≢ e.key) i (remove es i) apart) in
      let split : take i es ++ e ∷ drop (suc i) es ≡ es = ap (λ t. take i es ++ t) (sym (drop-cons es i d l)) ∙ take-append-drop i es in
      let whole : slots_of room es ≡ set left e.key (Some e.rank) = ap (slots_of room) (sym split) ∙ slots_of-insert room (take i es) (drop (suc i) es) e front in
      sym (ap (λ s. set s e.key None) whole ∙ set-set left e.key (Some e.rank) None ∙ ap (λ v. set left e.key v) (sym (absent room (remove es i) e.key apart)) ∙ set-get_or left e.key None)

  -- ---- map_ranks

  module _ (gives : R → R → Type 0) (new : List (Entry R)) (maps : MapsEntries gives es new) where
    new_distinct : AllPairs (λ a b. a.key ≢ b.key) new
    new_distinct i j d l m w =
        let size = maps.size in
        sound.distinct i j d l (omega arith) (sym (maps.keys i d (omega arith)) ∙ w ∙ maps.keys j d (omega arith))

    new_in_room : All (λ e. e.key < room) new
    new_in_room k d l =
        let size = maps.size in
        let in' : k < length es = omega arith in
        rw (maps.keys k d in') (sound.in_room k d in')

    new_at : (i : ℕ) (d : Entry R) → i < length es → slot_of_key (slots_of room new) (get_or es i d).key ≡ Some (get_or new i d).rank
    new_at i d l =
        let size = maps.size in
        subst (λ k. slot_of_key (slots_of room new) k ≡ Some (get_or new i d).rank) (maps.keys i d l) (held_at room new new_distinct new_in_room i d (omega arith))

    pub IsSound-mapped : KeepsOrder compare (slots_of room es) gives → (more : ℕ) → capacity ≤ more → IsSound compare room more new
    IsSound-mapped keeps more m = record {
      rising = λ i j d l b. let size = maps.size in let in' : j < length es = omega arith in let in'' : i < length es = omega arith in keeps (get_or es i d).key (get_or es j d).key _ _ _ _ (held_at room es sound.distinct sound.in_room i d in'') (held_at room es sound.distinct sound.in_room j d in') (sound.rising i j d l in') (maps.ranks i d in'') (maps.ranks j d in');
      distinct = new_distinct;
      in_room = new_in_room;
      memory = omega (arith, sound.memory, m);
    }

    pub IsMapped-slots_of : IsMapped gives (slots_of room es) (slots_of room new)
    IsMapped-slots_of = record {
      room = length-slots_of room new ∙ sym (length-slots_of room es);
      ranks = λ key. option_cases (slot_of_key (slots_of room es) key) (λ none. rw none (absent room new key (λ k d l w. let size = maps.size in let in' : k < length es = omega arith in let at = held_at room es sound.distinct sound.in_room k d in' in let same : (get_or es k d).key ≡ key = sym (maps.keys k d in') ∙ w in cc (subst (λ k'. slot_of_key (slots_of room es) k' ≡ Some (get_or es k d).rank) same at, none)))) (λ rank some. rw some (held_all (λ key rank. IsSomeAnd (slot_of_key (slots_of room new) key) (gives rank)) room es (λ i d l. rw (new_at i d l) (maps.ranks i d l)) key rank some));
    }
