-- The map that a heap and its indexes represent, after each change of the two.
use Rattle.std.proofs.Common.{◌≡◌, ◌≢◌, ℕ, zero, suc, ◌+◌, ◌<◌, ◌≤◌, ◌⊎◌, List, [], ◌∷◌, ◌++◌, Option, Some, None, length, get_or, set, replicate, slice_get, option_and_then, count_by, is_some, cond, refl, sym, ap, ◌∙◌, subst, inl, inr, arith}
use Rattle.std.specs.Option.{option_map}
use Rattle.std.specs.declared.cmp.Ordering.{Ordering}
use Rattle.std.specs.Cmp.{IsTotalOrder}
use Rattle.std.proofs.lemmas.Cmp.{tied_back}
use Rattle.std.proofs.lemmas.Bool.{cases_lt, cases_eq}
use Rattle.std.proofs.lemmas.List.{length-set, length-map, length-append, get_or-set_same, get_or-set_other, set_at, set-append_left, set-set, set_comm}
use Rattle.std.proofs.lemmas.List.Sums.{sum_by-set}
use Rattle.std.proofs.lemmas.Option.{slice_get_within, slice_get_past, slice_get_read, same_Some}
use Rattle.dmc_index.specs.Index.{slot_of_key, IsApartFromOthers, AreApart}
use Rattle.dmc_heap.specs.Heap.{rank_at, slots_of, parent_of, IsLinked, IsHeap}
use Rattle.dmc_heap.specs.internal.Heap.{rank_of, IsHole}
use Rattle.dmc_heap.specs.declared.indexed_heap.Entry.{Entry}
use Rattle.dmc_heap.specs.declared.indexed_heap.TheConstants.{VACANT}
use Rattle.dmc_lemmas.proofs.Lists.{slice_get-set_same, slice_get-set_other, slice_get-append, slice_get-push}
use Rattle.dmc_index.proofs.Slots.{same_slots}
use Rattle.dmc_heap.proofs.LinkLemmas.{option_cases, rank_of_some, rank_of_none, IsLinked-move, rank_of-move, keys_apart}
use Rattle.dmc_heap.proofs.OrderLemmas.{upto_trans}

-- ---- an element of a longer list

module _ {X : Type 0} where
  pub push_cases : (xs : List X) (y : X) (i : ℕ) (x : X) → slice_get (xs ++ y ∷ []) i ≡ Some x → (slice_get xs i ≡ Some x) ⊎ ((i ≡ length xs) × (x ≡ y))
  push_cases [] y zero x h = inr (refl, sym (same_Some y x h))
  push_cases [] y (suc i) x h = cc
  push_cases (x' ∷ xs) y zero x h = inl h
  push_cases (x' ∷ xs) y (suc i) x h =
      elim (push_cases xs y i x h) [ inl w ↦ inl w | inr w ↦ inr (ap suc w.0, w.1) ]

  pub push_none : (xs : List X) (y : X) (i : ℕ) → slice_get (xs ++ y ∷ []) i ≡ None → slice_get xs i ≡ None
  push_none [] y i h = refl
  push_none (x ∷ xs) y zero h = h
  push_none (x ∷ xs) y (suc i) h = push_none xs y i h

  pub replicate_cases : (xs : List X) (n : ℕ) (v : X) (i : ℕ) (x : X) → slice_get (xs ++ replicate n v) i ≡ Some x → (slice_get xs i ≡ Some x) ⊎ (x ≡ v)
  replicate_cases [] zero v i x h = cc
  replicate_cases [] (suc n) v zero x h = inr (sym (same_Some v x h))
  replicate_cases [] (suc n) v (suc i) x h = elim (replicate_cases [] n v i x h) [ inl w ↦ cc | inr w ↦ inr w ]
  replicate_cases (x' ∷ xs) n v zero x h = inl h
  replicate_cases (x' ∷ xs) n v (suc i) x h = replicate_cases xs n v i x h

-- ---- maps

module _ {R : Type 0} where
  pub slot_of_key-slots_of : (heap : List (Entry R)) (places : List ℕ) (key : ℕ) → slot_of_key (slots_of heap places) key ≡ rank_of heap places key
  slot_of_key-slots_of heap [] key = refl
  slot_of_key-slots_of heap (p ∷ ps) zero = refl
  slot_of_key-slots_of heap (p ∷ ps) (suc key) = slot_of_key-slots_of heap ps key

  -- one key has another rank, or none, and the others have theirs
  pub slots_of-set : (heap new_heap : List (Entry R)) (places new_places : List ℕ) (key : ℕ) (v : Option R) → length new_places ≡ length places → key < length places → rank_of new_heap new_places key ≡ v → ((k : ℕ) → k ≢ key → rank_of new_heap new_places k ≡ rank_of heap places k) → slots_of new_heap new_places ≡ set (slots_of heap places) key v
  slots_of-set heap new_heap places new_places key v e l at else' =
      let old = slots_of heap places in
      let in' : key < length old = omega (arith, length-map places (rank_at heap)) in
      same_slots (slots_of new_heap new_places) (set old key v) (length-map new_places (rank_at new_heap) ∙ e ∙ sym (length-map places (rank_at heap)) ∙ sym (length-set old key v)) (λ k. elim (cases_eq k key) [
        | inl s ↦ slot_of_key-slots_of new_heap new_places k ∙ ap (rank_of new_heap new_places) s ∙ at ∙ sym (get_or-set_same old key v None in') ∙ ap (slot_of_key (set old key v)) (sym s)
        | inr p ↦ slot_of_key-slots_of new_heap new_places k ∙ else' k p ∙ sym (slot_of_key-slots_of heap places k) ∙ sym (get_or-set_other old key k v None p)
      ])

  -- what a map holds after a write was written, or held before
  slot_of_key-set : (slots : List (Option R)) (i key : ℕ) (v : Option R) (rank : R) → slot_of_key (set slots i v) key ≡ Some rank → ((key ≡ i) × (v ≡ Some rank)) ⊎ (((key ≡ i → ⊥) × (slot_of_key slots key ≡ Some rank)) ⊎ (length slots ≤ i))
  slot_of_key-set slots i key v rank h =
      elim (cases_lt i (length slots)) [
        | inr l ↦ inr (inr l)
        | inl l ↦ elim (cases_eq key i) [
          | inr ne ↦ inr (inl (ne, sym (get_or-set_other slots i key v None ne) ∙ h))
          | inl e ↦ inl (e, sym (get_or-set_same slots i v None l) ∙ subst (λ k. get_or (set slots i v) k None ≡ Some rank) e h)
        ]
      ]

  pub AreApart-set : (compare : R → R → Ordering) (o : IsTotalOrder compare) (slots : List (Option R)) (key : ℕ) (v : Option R) → key < length slots → AreApart compare slots → ((rank : R) → v ≡ Some rank → IsApartFromOthers compare slots key rank) → AreApart compare (set slots key v)
  AreApart-set compare o slots key v l apart new a r h b s ne q =
      elim (slot_of_key-set slots key a v r h) [
        | inl w ↦ elim (slot_of_key-set slots key b v s q) [
          | inl u ↦ absurd (ne (u.0 ∙ sym w.0))
          | inr (inl u) ↦ new r w.1 b s u.0 u.1
          | inr (inr u) ↦ absurd (omega arith)
        ]
        | inr (inl w) ↦ elim (slot_of_key-set slots key b v s q) [
          | inl u ↦ λ e. new s u.1 a r w.0 w.1 (tied_back o r s e)
          | inr (inl u) ↦ apart a r w.1 b s ne u.1
          | inr (inr u) ↦ absurd (omega arith)
        ]
        | inr (inr w) ↦ absurd (omega arith)
      ]

  count-set : (slots : List (Option R)) (key : ℕ) (v : Option R) → key < length slots → count_by is_some (set slots key v) + cond (is_some (slot_of_key slots key)) 1 0 ≡ count_by is_some slots + cond (is_some v) 1 0
  count-set slots key v l = sum_by-set (λ (o : Option R). cond (is_some o) 1 0) slots key v None l

  bit_of : (v w : Option R) → v ≡ w → ◌≡◌ {A = ℕ} (cond (is_some v) 1 0) (cond (is_some w) 1 0)
  bit_of v w e = ap (λ (o : Option R). cond (is_some o) 1 0) e

  pub count_changed : (slots : List (Option R)) (key : ℕ) (old rank : R) → key < length slots → slot_of_key slots key ≡ Some old → count_by is_some (set slots key (Some rank)) ≡ count_by is_some slots
  count_changed slots key old rank l h = omega (arith, count-set slots key (Some rank) l, bit_of _ _ h)

  pub count_removed : (slots : List (Option R)) (key : ℕ) (old : R) → key < length slots → slot_of_key slots key ≡ Some old → count_by is_some (set slots key None) + 1 ≡ count_by is_some slots
  count_removed slots key old l h = omega (arith, count-set slots key None l, bit_of _ _ h)

-- ---- where a key is

module _ {R : Type 0} (heap : List (Entry R)) (places : List ℕ) (linked : IsLinked heap places) where
  -- a key that is held has an index, if its entry is
  pub place_of_held : (key : ℕ) (rank : R) → rank_of heap places key ≡ Some rank → (place : ℕ) × ((entry : Entry R) × (slice_get places key ≡ Some place) × (slice_get heap place ≡ Some entry) × (entry.key ≡ key) × (entry.rank ≡ rank))
  place_of_held key rank h =
      option_cases (slice_get places key) (λ none. cc (rank_of_none heap places key none)) (λ place some. option_cases (slice_get heap place) (λ none. cc (ap (option_and_then (rank_at heap)) some ∙ ap (option_map (λ (e : Entry R). e.rank)) none)) (λ entry there. (place, (entry, some, there, linked.keyed key place entry some there, same_Some entry.rank rank (sym (rank_of_some heap places key place entry some there) ∙ h)))))

  pub key_of_held : (key : ℕ) → rank_of heap places key ≡ None → (place : ℕ) (entry : Entry R) → slice_get heap place ≡ Some entry → entry.key ≢ key
  key_of_held key h place entry there e =
      cc (rank_of_some heap places key place entry (ap (slice_get places) (sym e) ∙ linked.placed place entry there) there)

-- ---- what a look at the places, and then at the heap, finds

module _ {R : Type 0} (heap : List (Entry R)) (places : List ℕ) (slots : List (Option R)) (is : slots_of heap places ≡ slots) (key : ℕ) where
  pub none_past_room : length places ≤ key → None ≡ slot_of_key slots key
  none_past_room l =
      sym (rank_of_none heap places key (slice_get_past places key l)) ∙ sym (slot_of_key-slots_of heap places key) ∙ ap (λ s. slot_of_key s key) is

  module _ (place : ℕ) (in_room : key < length places) (at : place ≡ get_or places key place) where
    by_place : option_map (λ (e : Entry R). e.rank) (slice_get heap place) ≡ slot_of_key slots key
    by_place =
        sym (ap (option_and_then (rank_at heap)) (slice_get_read places (length places) key place refl in_room at)) ∙ sym (slot_of_key-slots_of heap places key) ∙ ap (λ s. slot_of_key s key) is

    pub none_past_heap : length heap ≤ place → None ≡ slot_of_key slots key
    none_past_heap l = sym (ap (option_map (λ (e : Entry R). e.rank)) (slice_get_past heap place l)) ∙ by_place

    pub rank_of_found : (entry : Entry R) → place < length heap → entry ≡ get_or heap place entry → Some entry.rank ≡ slot_of_key slots key
    rank_of_found entry l there =
        sym (ap (option_map (λ (e : Entry R). e.rank)) (slice_get_read heap (length heap) place entry refl l there)) ∙ by_place

-- ---- the edits

module _ {R : Type 0} (compare : R → R → Ordering) (o : IsTotalOrder compare) (heap : List (Entry R)) (places : List ℕ) (linked : IsLinked heap places) (ordered : IsHeap compare heap) where
  -- another entry for a key
  module _ (e : Entry R) (place : ℕ) (old : Entry R) (at : slice_get places e.key ≡ Some place) (there : slice_get heap place ≡ Some old) where
    within_heap : place < length heap
    within_heap = slice_get_within heap place old there

    same_places : (k : ℕ) → slice_get (set places e.key place) k ≡ slice_get places k
    same_places k =
        elim (cases_eq k e.key) [
          | inl s ↦ ap (slice_get (set places e.key place)) s ∙ slice_get-set_same places e.key place (slice_get_within places e.key place at) ∙ sym at ∙ ap (slice_get places) (sym s)
          | inr p ↦ slice_get-set_other places e.key k place p
        ]

    IsLinked-change : IsLinked (set heap place e) (set places e.key place)
    IsLinked-change = record {
      placed = λ i x h. elim (cases_eq i place) [
        | inl s ↦ let same : x ≡ e = same_Some x e (sym h ∙ ap (slice_get (set heap place e)) s ∙ slice_get-set_same heap place e within_heap) in ap (λ (x : Entry R). slice_get (set places e.key place) x.key) same ∙ same_places e.key ∙ at ∙ ap Some (sym s)
        | inr p ↦ same_places x.key ∙ linked.placed i x (sym (slice_get-set_other heap place i e p) ∙ h)
      ];
      keyed = λ k i x h m. let was = sym (same_places k) ∙ h in elim (cases_eq i place) [
        | inl s ↦ let same : x ≡ e = same_Some x e (sym m ∙ ap (slice_get (set heap place e)) s ∙ slice_get-set_same heap place e within_heap) in ap (λ (x : Entry R). x.key) same ∙ sym (linked.keyed e.key place old at there) ∙ linked.keyed k place old (was ∙ ap Some s) there
        | inr p ↦ linked.keyed k i x was (sym (slice_get-set_other heap place i e p) ∙ m)
      ];
      vacant = λ k i h m. elim (cases_eq i place) [
        | inl s ↦ cc (sym m ∙ ap (slice_get (set heap place e)) s ∙ slice_get-set_same heap place e within_heap)
        | inr p ↦ linked.vacant k i (sym (same_places k) ∙ h) (sym (slice_get-set_other heap place i e p) ∙ m)
      ];
    }

    pub IsHole-change : IsHole compare heap places place e
    IsHole-change = record {
      within = within_heap;
      linked = IsLinked-change;
      ordered = λ i above below pos p q qa qb. ordered i above below pos qa qb;
      across = λ i above below pos pos' s qa qb. upto_trans compare o above old below (ordered place above old pos' qa there) (ordered i old below pos (ap (slice_get heap) s ∙ there) qb);
    }

    pub rank_of_changed : rank_of (set heap place e) (set places e.key place) e.key ≡ Some e.rank
    rank_of_changed =
        rank_of_some (set heap place e) (set places e.key place) e.key place e (same_places e.key ∙ at) (slice_get-set_same heap place e within_heap)

    pub rank_of_others : (k : ℕ) → k ≢ e.key → rank_of (set heap place e) (set places e.key place) k ≡ rank_of heap places k
    rank_of_others k p =
        option_cases (slice_get places k) (λ none. rank_of_none (set heap place e) (set places e.key place) k (same_places k ∙ none) ∙ sym (rank_of_none heap places k none)) (λ i some. let other : i ≢ place = λ s. p (sym (linked.keyed k place old (some ∙ ap Some s) there) ∙ linked.keyed e.key place old at there) in ap (option_and_then (rank_at (set heap place e))) (same_places k ∙ some) ∙ ap (option_map (λ (e : Entry R). e.rank)) (slice_get-set_other heap place i e other) ∙ sym (ap (option_and_then (rank_at heap)) some))

-- an entry for a vacant key, at the end
module _ {R : Type 0} (compare : R → R → Ordering) (heap : List (Entry R)) (places : List ℕ) (linked : IsLinked heap places) (ordered : IsHeap compare heap) (e : Entry R) (within : e.key < length places) (none : rank_of heap places e.key ≡ None) (small : length heap < VACANT) where
  filled : set (heap ++ e ∷ []) (length heap) e ≡ heap ++ e ∷ []
  filled = set_at heap e [] e (length heap) refl

  new_place : slice_get (set places e.key (length heap)) e.key ≡ Some (length heap)
  new_place = slice_get-set_same places e.key (length heap) within

  -- the end of the heap is no key's index
  no_place : (k : ℕ) → slice_get places k ≡ Some (length heap) → ⊥
  no_place k h =
      let e : length heap ≡ VACANT = linked.vacant k (length heap) h (slice_get_past heap (length heap) (omega arith)) in
      omega arith

  IsLinked-push : IsLinked (heap ++ e ∷ []) (set places e.key (length heap))
  IsLinked-push = record {
    placed = λ i x h. elim (push_cases heap e i x h) [
      | inl w ↦ slice_get-set_other places e.key x.key (length heap) (key_of_held heap places linked e.key none i x w) ∙ linked.placed i x w
      | inr w ↦ ap (λ (x : Entry R). slice_get (set places e.key (length heap)) x.key) w.1 ∙ new_place ∙ ap Some (sym w.0)
    ];
    keyed = λ k i x h m. elim (cases_eq k e.key) [
      | inl s ↦ let at : i ≡ length heap = same_Some i (length heap) (sym h ∙ ap (slice_get (set places e.key (length heap))) s ∙ new_place) in let same : x ≡ e = same_Some x e (sym m ∙ ap (slice_get (heap ++ e ∷ [])) at ∙ slice_get-push heap e) in ap (λ (x : Entry R). x.key) same ∙ sym s
      | inr p ↦ let was = sym (slice_get-set_other places e.key k (length heap) p) ∙ h in elim (push_cases heap e i x m) [
        | inl w ↦ linked.keyed k i x was w
        | inr w ↦ absurd (no_place k (was ∙ ap Some w.0))
      ]
    ];
    vacant = λ k i h m. elim (cases_eq k e.key) [
      | inl s ↦ let at : i ≡ length heap = same_Some i (length heap) (sym h ∙ ap (slice_get (set places e.key (length heap))) s ∙ new_place) in cc (sym m ∙ ap (slice_get (heap ++ e ∷ [])) at ∙ slice_get-push heap e)
      | inr p ↦ linked.vacant k i (sym (slice_get-set_other places e.key k (length heap) p) ∙ h) (push_none heap e i m)
    ];
  }

  pub IsHole-push : IsHole compare (heap ++ e ∷ []) places (length heap) e
  IsHole-push = record {
    within = omega (arith, length-append heap (e ∷ []));
    linked = subst (λ h. IsLinked h (set places e.key (length heap))) (sym filled) IsLinked-push;
    ordered = λ i above below pos p q qa qb. elim (push_cases heap e i below qb) [
      | inl w ↦ elim (push_cases heap e (parent_of i) above qa) [
        | inl u ↦ ordered i above below pos u w
        | inr u ↦ absurd (q u.0)
      ]
      | inr w ↦ absurd (p w.0)
    ];
    across = λ i above below pos pos' s qa qb. absurd (omega (arith, slice_get_within (heap ++ e ∷ []) i below qb, length-append heap (e ∷ [])));
  }

  pub rank_of_pushed : rank_of (set (heap ++ e ∷ []) (length heap) e) (set places e.key (length heap)) e.key ≡ Some e.rank
  rank_of_pushed =
      rank_of_some (set (heap ++ e ∷ []) (length heap) e) (set places e.key (length heap)) e.key (length heap) e new_place (ap (λ h. slice_get h (length heap)) filled ∙ slice_get-push heap e)

  pub rank_of_others_pushed : (k : ℕ) → k ≢ e.key → rank_of (set (heap ++ e ∷ []) (length heap) e) (set places e.key (length heap)) k ≡ rank_of heap places k
  rank_of_others_pushed k p =
      let same = slice_get-set_other places e.key k (length heap) p in
      let longer = ap (λ h. rank_of h (set places e.key (length heap)) k) filled in
      longer ∙ option_cases (slice_get places k) (λ none. rank_of_none (heap ++ e ∷ []) (set places e.key (length heap)) k (same ∙ none) ∙ sym (rank_of_none heap places k none)) (λ i some. option_cases (slice_get (heap ++ e ∷ []) i) (λ past. ap (option_and_then (rank_at (heap ++ e ∷ []))) (same ∙ some) ∙ ap (option_map (λ (e : Entry R). e.rank)) past ∙ sym (ap (option_and_then (rank_at heap)) some ∙ ap (option_map (λ (e : Entry R). e.rank)) (push_none heap e i past))) (λ x there. elim (push_cases heap e i x there) [
        | inl w ↦ rank_of_some (heap ++ e ∷ []) (set places e.key (length heap)) k i x (same ∙ some) there ∙ sym (rank_of_some heap places k i x some w)
        | inr w ↦ absurd (no_place k (some ∙ ap Some w.0))
      ]))

-- the last entry goes
module _ {R : Type 0} (heap : List (Entry R)) (y : Entry R) (places : List ℕ) (linked : IsLinked (heap ++ y ∷ []) places) (small : length heap < VACANT) where
  in_places : y.key < length places
  in_places = slice_get_within places y.key (length heap) (linked.placed (length heap) y (slice_get-push heap y))

  gone : slice_get (set places y.key VACANT) y.key ≡ Some VACANT
  gone = slice_get-set_same places y.key VACANT in_places

  past : slice_get heap VACANT ≡ None
  past = slice_get_past heap VACANT (omega arith)

  pub IsLinked-pop : IsLinked heap (set places y.key VACANT)
  IsLinked-pop = record {
    placed = λ i x h. let at = linked.placed i x (slice_get-append heap (y ∷ []) i x h) in slice_get-set_other places y.key x.key VACANT (λ s. let e : i ≡ length heap = same_Some i (length heap) (sym at ∙ ap (slice_get places) s ∙ linked.placed (length heap) y (slice_get-push heap y)) in omega (arith, slice_get_within heap i x h)) ∙ at;
    keyed = λ k i x h m. elim (cases_eq k y.key) [
      | inl s ↦ let e : i ≡ VACANT = same_Some i VACANT (sym h ∙ ap (slice_get (set places y.key VACANT)) s ∙ gone) in cc (sym m ∙ ap (slice_get heap) e ∙ past)
      | inr p ↦ linked.keyed k i x (sym (slice_get-set_other places y.key k VACANT p) ∙ h) (slice_get-append heap (y ∷ []) i x m)
    ];
    vacant = λ k i h m. elim (cases_eq k y.key) [
      | inl s ↦ same_Some i VACANT (sym h ∙ ap (slice_get (set places y.key VACANT)) s ∙ gone)
      | inr p ↦ let was = sym (slice_get-set_other places y.key k VACANT p) ∙ h in option_cases (slice_get (heap ++ y ∷ []) i) (λ none. linked.vacant k i was none) (λ x there. elim (push_cases heap y i x there) [ inl w ↦ cc (sym m ∙ w) | inr w ↦ absurd (p (sym (linked.keyed k i x was there) ∙ ap (λ (e : Entry R). e.key) w.1)) ])
    ];
  }

  pub rank_of_popped : rank_of heap (set places y.key VACANT) y.key ≡ None
  rank_of_popped = ap (option_and_then (rank_at heap)) gone ∙ ap (option_map (λ (e : Entry R). e.rank)) past

  pub rank_of_others_popped : (k : ℕ) → k ≢ y.key → rank_of heap (set places y.key VACANT) k ≡ rank_of (heap ++ y ∷ []) places k
  rank_of_others_popped k p =
      let same = slice_get-set_other places y.key k VACANT p in
      option_cases (slice_get places k) (λ none. rank_of_none heap (set places y.key VACANT) k (same ∙ none) ∙ sym (rank_of_none (heap ++ y ∷ []) places k none)) (λ i some. option_cases (slice_get (heap ++ y ∷ []) i) (λ none. ap (option_and_then (rank_at heap)) (same ∙ some) ∙ ap (option_map (λ (e : Entry R). e.rank)) (push_none heap y i none) ∙ sym (ap (option_and_then (rank_at (heap ++ y ∷ []))) some ∙ ap (option_map (λ (e : Entry R). e.rank)) none)) (λ x there. elim (push_cases heap y i x there) [
        | inl w ↦ rank_of_some heap (set places y.key VACANT) k i x (same ∙ some) w ∙ sym (rank_of_some (heap ++ y ∷ []) places k i x some there)
        | inr w ↦ absurd (p (sym (linked.keyed k i x some there) ∙ ap (λ (e : Entry R). e.key) w.1))
      ]))

pub IsHeap-pop : {R : Type 0} (compare : R → R → Ordering) (heap : List (Entry R)) (y : Entry R) → IsHeap compare (heap ++ y ∷ []) → IsHeap compare heap
IsHeap-pop compare heap y ordered i above below pos qa qb =
    ordered i above below pos (slice_get-append heap (y ∷ []) (parent_of i) above qa) (slice_get-append heap (y ∷ []) i below qb)

-- another entry goes, and the last entry is to be where it was
module _ {R : Type 0} (compare : R → R → Ordering) (o : IsTotalOrder compare) (heap : List (Entry R)) (last : Entry R) (places : List ℕ) (linked : IsLinked (heap ++ last ∷ []) places) (ordered : IsHeap compare (heap ++ last ∷ [])) (small : length heap < VACANT) (place : ℕ) (old : Entry R) (there : slice_get heap place ≡ Some old) where
  inside : place < length heap
  inside = slice_get_within heap place old there

  there' : slice_get (heap ++ last ∷ []) place ≡ Some old
  there' = slice_get-append heap (last ∷ []) place old there

  before_end : length heap ≢ place
  before_end e = omega (arith, inside)

  fits : place < length (heap ++ last ∷ [])
  fits = slice_get_within (heap ++ last ∷ []) place old there'

  at_place : slice_get places old.key ≡ Some place
  at_place = linked.placed place old there'

  stays : IsLinked (set (heap ++ last ∷ []) place old) (set places old.key place)
  stays = (IsHole-change compare o (heap ++ last ∷ []) places linked ordered old place old at_place there').linked

  lists : set (set (heap ++ last ∷ []) place last) (length heap) old ≡ set heap place last ++ old ∷ []
  lists =
      ap (λ h. set h (length heap) old) (set-append_left heap (last ∷ []) place last inside) ∙ set_at (set heap place last) last [] old (length heap) (length-set heap place last)

  other_key : last.key ≢ old.key
  other_key = keys_apart (heap ++ last ∷ []) places old last place (length heap) before_end fits stays (slice_get-push heap last)

  keys : set (set (set places last.key place) old.key (length heap)) old.key VACANT ≡ set (set places old.key VACANT) last.key place
  keys =
      set-set (set places last.key place) old.key (length heap) VACANT ∙ set_comm places last.key old.key place VACANT other_key

  swapped : IsLinked (set heap place last ++ old ∷ []) (set (set places last.key place) old.key (length heap))
  swapped =
      subst (λ h. IsLinked h (set (set places last.key place) old.key (length heap))) lists (IsLinked-move (heap ++ last ∷ []) places old last place (length heap) before_end fits stays (slice_get-push heap last))

  small' : length (set heap place last) < VACANT
  small' = omega (arith, length-set heap place last)

  pub IsHole-remove : IsHole compare heap (set places old.key VACANT) place last
  IsHole-remove = record {
    within = inside;
    linked = subst (IsLinked (set heap place last)) keys (IsLinked-pop (set heap place last) old (set (set places last.key place) old.key (length heap)) swapped small');
    ordered = λ i above below pos p q qa qb. IsHeap-pop compare heap last ordered i above below pos qa qb;
    across = λ i above below pos pos' s qa qb. upto_trans compare o above old below (IsHeap-pop compare heap last ordered place above old pos' qa there) (IsHeap-pop compare heap last ordered i old below pos (ap (slice_get heap) s ∙ there) qb);
  }

  pub rank_of_removed : rank_of (set heap place last) (set (set places old.key VACANT) last.key place) old.key ≡ None
  rank_of_removed =
      subst (λ ps. rank_of (set heap place last) ps old.key ≡ None) keys (rank_of_popped (set heap place last) old (set (set places last.key place) old.key (length heap)) swapped small')

  pub rank_of_others_left : (k : ℕ) → k ≢ old.key → rank_of (set heap place last) (set (set places old.key VACANT) last.key place) k ≡ rank_of (heap ++ last ∷ []) places k
  rank_of_others_left k p =
      subst (λ ps. rank_of (set heap place last) ps k ≡ rank_of (heap ++ last ∷ []) places k) keys (rank_of_others_popped (set heap place last) old (set (set places last.key place) old.key (length heap)) swapped small' k p
      ∙ sym (ap (λ h. rank_of h (set (set places last.key place) old.key (length heap)) k) lists)
      ∙ rank_of-move (heap ++ last ∷ []) places old last place (length heap) before_end fits stays (slice_get-push heap last) k
      ∙ rank_of_others compare o (heap ++ last ∷ []) places linked ordered old place old at_place there' k p)
