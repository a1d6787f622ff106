-- An index over packed ranks is one over the ranks that they store.
use Rattle.std.proofs.Common.{◌≡◌, ℕ, zero, suc, ◌-◌, ◌++◌, List, ◌∷◌, map, Option, Some, None, IsSomeAnd, Result, Ok, Err, OnOk, length, replicate, set, refl, sym, ap, ◌∙◌}
use Rattle.std.specs.Option.{option_map, MatchOption}
use Rattle.std.specs.declared.cmp.Ordering.{Ordering}
use Rattle.std.proofs.lemmas.List.{length-map, map-append}
use Rattle.dmc_index.specs.Index.{slot_of_key, IsEmpty, IsApart, IsApartFromOthers, AreApart, IsLeast, IsMapped}
use Rattle.dmc_index.proofs.Slots.{slot_of_key-map, some_if_mapped, map_set}

module _ {P R : Type 0} (rank_of : P → R) where
  map-none : (n : ℕ) → map (option_map rank_of) (replicate n None) ≡ replicate n None
  map-none zero = refl
  map-none (suc n) = ap (λ slots. None ∷ slots) (map-none n)

  -- more capacity
  pub map-more : (slots new : List (Option P)) (n : ℕ) {X E : Type 0} (r : Result X E) → OnOk r (new ≡ slots ++ replicate (n - length slots) None)
      → OnOk r (map (option_map rank_of) new ≡ map (option_map rank_of) slots ++ replicate (n - length (map (option_map rank_of) slots)) None)
  map-more slots new n (Ok x) e =
      let f = option_map rank_of in
      let more = n - length slots in
      ap (map f) e ∙ map-append f slots (replicate more None) ∙ ap (λ none. map f slots ++ none) (map-none more) ∙ ap (λ size. map f slots ++ replicate (n - size) None) (sym (length-map slots f))
  map-more slots new n (Err x) e = e

  -- a key whose rank is written or removed
  pub map-written : (slots : List (Option P)) {new : List (Option P)} (key : ℕ) {p : P} {rank : R} → rank_of p ≡ rank → new ≡ set slots key (Some p) → map (option_map rank_of) new ≡ set (map (option_map rank_of) slots) key (Some rank)
  map-written slots key {p = p} is e =
      ap (map (option_map rank_of)) e ∙ map_set rank_of slots key (Some p) ∙ ap (λ r. set (map (option_map rank_of) slots) key (Some r)) is

  pub map-removed : (slots : List (Option P)) {new : List (Option P)} (key : ℕ) → new ≡ set slots key None → map (option_map rank_of) new ≡ set (map (option_map rank_of) slots) key None
  map-removed slots key e = ap (map (option_map rank_of)) e ∙ map_set rank_of slots key None

  -- what a key holds
  pub rank_at : (slots : List (Option P)) (key : ℕ) (p : P) → slot_of_key slots key ≡ Some p → slot_of_key (map (option_map rank_of) slots) key ≡ Some (rank_of p)
  rank_at slots key p e = slot_of_key-map rank_of slots key ∙ ap (option_map rank_of) e

  packed_at : (slots : List (Option P)) (key : ℕ) (rank : R) → slot_of_key (map (option_map rank_of) slots) key ≡ Some rank → (p : P) × (slot_of_key slots key ≡ Some p) × (rank_of p ≡ rank)
  packed_at slots key rank e = some_if_mapped rank_of (slot_of_key slots key) rank (sym (slot_of_key-map rank_of slots key) ∙ e)

  pub no_rank : (slots : List (Option P)) → IsEmpty slots → IsEmpty (map (option_map rank_of) slots)
  no_rank slots empty key = slot_of_key-map rank_of slots key ∙ ap (option_map rank_of) (empty key)

  -- ---- every rank mapped

  module _ (gives : R → R → Type 0) where
    abbrev packed_gives : P → P → Type 0
    packed_gives p q = gives (rank_of p) (rank_of q)

    given : (o new : Option P) → MatchOption o (new ≡ None) (λ p. IsSomeAnd new (packed_gives p)) → MatchOption (option_map rank_of o) (option_map rank_of new ≡ None) (λ rank. IsSomeAnd (option_map rank_of new) (gives rank))
    given None new h = ap (option_map rank_of) h
    given (Some p) None h = absurd h
    given (Some p) (Some q) h = h

    pub ranks_mapped : (old new : List (Option P)) → IsMapped packed_gives old new → IsMapped gives (map (option_map rank_of) old) (map (option_map rank_of) new)
    ranks_mapped old new mapped = record {
      room = length-map new (option_map rank_of) ∙ mapped.room ∙ sym (length-map old (option_map rank_of));
      ranks = λ key. rw (slot_of_key-map rank_of old key, slot_of_key-map rank_of new key) (given (slot_of_key old key) (slot_of_key new key) (mapped.ranks key));
    }

  -- ---- the order

  module _ (packed_cmp : P → P → Ordering) (rank_cmp : R → R → Ordering) (same : (a b : P) → packed_cmp a b ≡ rank_cmp (rank_of a) (rank_of b)) (slots : List (Option P)) where
    same_as : {p : P} {rank : R} → rank_of p ≡ rank → (other : P) → packed_cmp p other ≡ rank_cmp rank (rank_of other)
    same_as {p = p} is other = same p other ∙ ap (λ r. rank_cmp r (rank_of other)) is

    pub packed_apart : {p : P} {rank : R} → rank_of p ≡ rank → IsApart rank_cmp (map (option_map rank_of) slots) rank → IsApart packed_cmp slots p
    packed_apart is apart key other e equal = apart key (rank_of other) (rank_at slots key other e) (sym (same_as is other) ∙ equal)

    pub packed_apart_from_others : {p : P} {rank : R} (key : ℕ) → rank_of p ≡ rank → IsApartFromOthers rank_cmp (map (option_map rank_of) slots) key rank → IsApartFromOthers packed_cmp slots key p
    packed_apart_from_others key is apart k other ne e equal = apart k (rank_of other) ne (rank_at slots k other e) (sym (same_as is other) ∙ equal)

    pub ranks_apart : AreApart packed_cmp slots → AreApart rank_cmp (map (option_map rank_of) slots)
    ranks_apart apart key rank e k other ne f equal =
        let p = packed_at slots key rank e in
        let q = packed_at slots k other f in
        apart key p.0 p.1 k q.0 ne q.1 (same_as p.2 q.0 ∙ ap (rank_cmp rank) q.2 ∙ equal)

    pub least_rank : (key : ℕ) (p : P) → IsLeast packed_cmp slots key p → IsLeast rank_cmp (map (option_map rank_of) slots) key (rank_of p)
    least_rank key p least = record {
      here = rank_at slots key p least.here;
      below = λ k other ne e. let q = packed_at slots k other e in sym (same p q.0 ∙ ap (rank_cmp (rank_of p)) q.2) ∙ least.below k q.0 ne q.1;
    }
