-- The indexes of a heap's entries, and the ranks of their keys.
use Rattle.std.proofs.Common.{◌≡◌, ◌≢◌, ℕ, ◌<◌, List, Some, None, length, set, slice_get, option_and_then, sym, ap, ◌∙◌, inl, inr, arith}
use Rattle.std.specs.Option.{option_map}
use Rattle.std.proofs.lemmas.Bool.{cases_eq}
use Rattle.std.proofs.lemmas.List.{length-set}
use Rattle.std.proofs.lemmas.Option.{slice_get_within}
use Rattle.dmc_heap.specs.Heap.{rank_at, IsLinked}
use Rattle.dmc_heap.specs.internal.Heap.{rank_of}
use Rattle.dmc_heap.specs.declared.indexed_heap.Entry.{Entry}
pub use Rattle.dmc_lemmas.proofs.Options.{option_cases}
use Rattle.dmc_lemmas.proofs.Lists.{slice_get-set_same, slice_get-set_other}

-- ---- the rank of a key

module _ {R : Type 0} (heap : List (Entry R)) (places : List ℕ) (key : ℕ) where
  pub rank_of_some : (place : ℕ) (entry : Entry R) → slice_get places key ≡ Some place → slice_get heap place ≡ Some entry → rank_of heap places key ≡ Some entry.rank
  rank_of_some place entry p q = ap (option_and_then (rank_at heap)) p ∙ ap (option_map (λ (e : Entry R). e.rank)) q

  pub rank_of_none : slice_get places key ≡ None → rank_of heap places key ≡ None
  rank_of_none p = ap (option_and_then (rank_at heap)) p

-- ---- a hole for x moves to the place of y, and y into the hole

module _ {R : Type 0} (heap : List (Entry R)) (places : List ℕ) (x y : Entry R) (hole to : ℕ) (apart : to ≢ hole) (within : hole < length heap) (linked : IsLinked (set heap hole x) (set places x.key hole)) (here : slice_get heap to ≡ Some y) where
  at_hole : slice_get (set heap hole x) hole ≡ Some x
  at_hole = slice_get-set_same heap hole x within

  at_to : slice_get (set heap hole x) to ≡ Some y
  at_to = slice_get-set_other heap hole to x apart ∙ here

  place_x : slice_get (set places x.key hole) x.key ≡ Some hole
  place_x = linked.placed hole x at_hole

  place_y : slice_get (set places x.key hole) y.key ≡ Some to
  place_y = linked.placed to y at_to

  pub keys_apart : y.key ≢ x.key
  keys_apart e =
      let both : Some to ≡ Some hole = sym place_y ∙ ap (slice_get (set places x.key hole)) e ∙ place_x in
      apart (cc)

  x_in_room : x.key < length places
  x_in_room =
      omega (arith, slice_get_within (set places x.key hole) x.key hole place_x, length-set places x.key hole)

  pub y_in_room : y.key < length places
  y_in_room =
      omega (arith, slice_get_within (set places x.key hole) y.key to place_y, length-set places x.key hole)

  -- after the move

  new_at_to : slice_get (set (set heap hole y) to x) to ≡ Some x
  new_at_to =
      slice_get-set_same (set heap hole y) to x (omega (arith, length-set heap hole y, slice_get_within heap to y here))

  new_at_hole : slice_get (set (set heap hole y) to x) hole ≡ Some y
  new_at_hole =
      slice_get-set_other (set heap hole y) to hole x (λ e. apart (sym e)) ∙ slice_get-set_same heap hole y within

  new_elsewhere : (i : ℕ) → i ≢ hole → i ≢ to → slice_get (set (set heap hole y) to x) i ≡ slice_get (set heap hole x) i
  new_elsewhere i p q =
      slice_get-set_other (set heap hole y) to i x q ∙ slice_get-set_other heap hole i y p ∙ sym (slice_get-set_other heap hole i x p)

  new_place_x : slice_get (set (set places y.key hole) x.key to) x.key ≡ Some to
  new_place_x =
      slice_get-set_same (set places y.key hole) x.key to (omega (arith, length-set places y.key hole, x_in_room))

  new_place_y : slice_get (set (set places y.key hole) x.key to) y.key ≡ Some hole
  new_place_y =
      slice_get-set_other (set places y.key hole) x.key y.key to keys_apart ∙ slice_get-set_same places y.key hole y_in_room

  new_place_else : (k : ℕ) → k ≢ x.key → k ≢ y.key → slice_get (set (set places y.key hole) x.key to) k ≡ slice_get (set places x.key hole) k
  new_place_else k p q =
      slice_get-set_other (set places y.key hole) x.key k to p ∙ slice_get-set_other places y.key k hole q ∙ sym (slice_get-set_other places x.key k hole p)

  -- another key's index is another index
  elsewhere : (k i : ℕ) → k ≢ x.key → k ≢ y.key → slice_get (set places x.key hole) k ≡ Some i → (i ≢ hole) × (i ≢ to)
  elsewhere k i p q h =
      (λ e. p (sym (linked.keyed k hole x (h ∙ ap Some e) at_hole)), λ e. q (sym (linked.keyed k to y (h ∙ ap Some e) at_to)))

  pub IsLinked-move : IsLinked (set (set heap hole y) to x) (set (set places y.key hole) x.key to)
  IsLinked-move = record {
    placed = λ i e h. elim (cases_eq i to) [
      | inl s ↦ let f : Some e ≡ Some x = sym h ∙ ap (slice_get (set (set heap hole y) to x)) s ∙ new_at_to in let g : e ≡ x = cc in ap (λ (e : Entry R). slice_get (set (set places y.key hole) x.key to) e.key) g ∙ new_place_x ∙ ap Some (sym s)
      | inr p ↦ elim (cases_eq i hole) [
        | inl s ↦ let f : Some e ≡ Some y = sym h ∙ ap (slice_get (set (set heap hole y) to x)) s ∙ new_at_hole in let g : e ≡ y = cc in ap (λ (e : Entry R). slice_get (set (set places y.key hole) x.key to) e.key) g ∙ new_place_y ∙ ap Some (sym s)
        | inr q ↦ let old = linked.placed i e (sym (new_elsewhere i q p) ∙ h) in new_place_else e.key (λ s. let f : Some i ≡ Some hole = sym old ∙ ap (slice_get (set places x.key hole)) s ∙ place_x in q (cc)) (λ s. let f : Some i ≡ Some to = sym old ∙ ap (slice_get (set places x.key hole)) s ∙ place_y in p (cc)) ∙ old
      ]
    ];
    keyed = λ k i e h m. elim (cases_eq k x.key) [
      | inl s ↦ let f : Some i ≡ Some to = sym h ∙ ap (slice_get (set (set places y.key hole) x.key to)) s ∙ new_place_x in let g : i ≡ to = cc in let f2 : Some e ≡ Some x = sym m ∙ ap (slice_get (set (set heap hole y) to x)) g ∙ new_at_to in let g2 : e ≡ x = cc in ap (λ (e : Entry R). e.key) g2 ∙ sym s
      | inr p ↦ elim (cases_eq k y.key) [
        | inl s ↦ let f : Some i ≡ Some hole = sym h ∙ ap (slice_get (set (set places y.key hole) x.key to)) s ∙ new_place_y in let g : i ≡ hole = cc in let f2 : Some e ≡ Some y = sym m ∙ ap (slice_get (set (set heap hole y) to x)) g ∙ new_at_hole in let g2 : e ≡ y = cc in ap (λ (e : Entry R). e.key) g2 ∙ sym s
        | inr q ↦ let old = sym (new_place_else k p q) ∙ h in let other = elsewhere k i p q old in linked.keyed k i e old (sym (new_elsewhere i other.0 other.1) ∙ m)
      ]
    ];
    vacant = λ k i h m. elim (cases_eq k x.key) [
      | inl s ↦ let f : Some i ≡ Some to = sym h ∙ ap (slice_get (set (set places y.key hole) x.key to)) s ∙ new_place_x in let g : i ≡ to = cc in let f2 : None ≡ Some x = sym m ∙ ap (slice_get (set (set heap hole y) to x)) g ∙ new_at_to in cc
      | inr p ↦ elim (cases_eq k y.key) [
        | inl s ↦ let f : Some i ≡ Some hole = sym h ∙ ap (slice_get (set (set places y.key hole) x.key to)) s ∙ new_place_y in let g : i ≡ hole = cc in let f2 : None ≡ Some y = sym m ∙ ap (slice_get (set (set heap hole y) to x)) g ∙ new_at_hole in cc
        | inr q ↦ let old = sym (new_place_else k p q) ∙ h in let other = elsewhere k i p q old in linked.vacant k i old (sym (new_elsewhere i other.0 other.1) ∙ m)
      ]
    ];
  }

  pub rank_of-move : (k : ℕ) → rank_of (set (set heap hole y) to x) (set (set places y.key hole) x.key to) k ≡ rank_of (set heap hole x) (set places x.key hole) k
  rank_of-move k =
      elim (cases_eq k x.key) [
        | inl s ↦ rank_of_some _ _ k to x (ap (slice_get (set (set places y.key hole) x.key to)) s ∙ new_place_x) new_at_to ∙ sym (rank_of_some _ _ k hole x (ap (slice_get (set places x.key hole)) s ∙ place_x) at_hole)
        | inr p ↦ elim (cases_eq k y.key) [
          | inl s ↦ rank_of_some _ _ k hole y (ap (slice_get (set (set places y.key hole) x.key to)) s ∙ new_place_y) new_at_hole ∙ sym (rank_of_some _ _ k to y (ap (slice_get (set places x.key hole)) s ∙ place_y) at_to)
          | inr q ↦ option_cases (slice_get (set places x.key hole) k) (λ none. rank_of_none _ _ k (new_place_else k p q ∙ none) ∙ sym (rank_of_none _ _ k none)) (λ i some. let other = elsewhere k i p q some in ap (option_and_then (rank_at (set (set heap hole y) to x))) (new_place_else k p q ∙ some) ∙ ap (option_map (λ (e : Entry R). e.rank)) (new_elsewhere i other.0 other.1) ∙ sym (ap (option_and_then (rank_at (set heap hole x))) some))
        ]
      ]
