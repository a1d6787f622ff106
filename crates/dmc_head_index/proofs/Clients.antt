-- What an index returns, in terms of the heads, and a head that is written.
use Rattle.std.proofs.Common.{◌≡◌, ◌≢◌, ℕ, ◌<◌, List, Option, Some, None, length, set, sym, ap, ◌∙◌, inl, inr, false, is_some, IsSome}
use Rattle.std.specs.Option.{option_map, MatchOption}
use Rattle.std.specs.declared.cmp.Ordering.{Ordering}
use Rattle.std.specs.declared.cmp.Ordering.TheVariants.{Equal}
use Rattle.std.proofs.lemmas.Bool.{cases_eq, eqb-false}
use Rattle.std.proofs.lemmas.Option.{same_Some}
use Rattle.std.proofs.lemmas.Map.Lookups.{exact_unsigned}
use Rattle.dmc_types.specs.declared.ids.ClientId.{ClientId}
use Rattle.dmc_tag.specs.State.{is_client}
use Rattle.dmc_tag.specs.Rank.{client_cmp}
use Rattle.dmc_tag.proofs.Ids.{client_turned}
use Rattle.dmc_index.specs.Index.{slot_of_key, IsEmpty, IsLeast, IsApart, IsApartFromOthers}
use Rattle.dmc_head_index.specs.declared.head.Head.{Head}
use Rattle.dmc_head_index.specs.Heads.{Ranks, IsOthers, AreApart, IsFirst}
use Rattle.dmc_head_index.proofs.Slots.{some_if_mapped, none_if_mapped, is_some_mapped, slot_of_key-set_same, slot_of_key-set_other}
pub use Rattle.dmc_lemmas.proofs.Orderings.{same_compare, tag_order}

different_clients : (a b : ClientId) → is_client a b ≡ false → client_cmp a b ≡ Equal → ⊥
different_clients a b e q = eqb-false b.0 a.0 e (sym (exact_unsigned a.0 b.0 q))

-- ---- one index

module _ {T R : Type 0} (rank : Head T → R) (heads : List (Option (Head T))) (slots : List (Option R)) (ranks : Ranks rank heads slots) where
  pub rank_held : (key : ℕ) (h : Head T) → slot_of_key heads key ≡ Some h → slot_of_key slots key ≡ Some (rank h)
  rank_held key h e = ranks key ∙ ap (option_map rank) e

  pub is_held : (key : ℕ) → IsSome (slot_of_key heads key) → IsSome (slot_of_key slots key)
  is_held key h = ap is_some (ranks key) ∙ is_some_mapped rank (slot_of_key heads key) ∙ h

  pub is_vacant : (key : ℕ) → slot_of_key heads key ≡ None → slot_of_key slots key ≡ None
  is_vacant key h = ranks key ∙ ap (option_map rank) h

  -- what is read at a key
  pub rank_read : (key : ℕ) (h : Head T) → slot_of_key heads key ≡ Some h → {found : Option R} {r : R} → found ≡ slot_of_key slots key → found ≡ Some r → r ≡ rank h
  rank_read key h e {r = r} held some = same_Some r (rank h) (sym some ∙ held ∙ rank_held key h e)

  -- a rank of a client that no other key has is apart from those of the other keys
  pub rank_apart : (compare : R → R → Ordering) (client_of : R → ClientId) → ((h : Head T) → client_of (rank h) ≡ h.client) → ((a b : R) → compare a b ≡ Equal → client_cmp (client_of a) (client_of b) ≡ Equal) → (key : ℕ) (client : ClientId) → IsOthers heads key client → (x : R) → client_of x ≡ client → IsApartFromOthers compare slots key x
  rank_apart compare client_of own equal key client others x e k other ne q same =
      let h = some_if_mapped rank (slot_of_key heads k) other (sym (ranks k) ∙ q) in
      let theirs : client_of other ≡ h.0.client = sym (ap client_of h.2) ∙ own h.0 in
      different_clients client h.0.client (others k h.0 ne h.1) (ap (λ c. client_cmp c h.0.client) (sym e) ∙ ap (client_cmp (client_of x)) (sym theirs) ∙ equal x other same)

  pub is_empty : IsEmpty slots → IsEmpty heads
  is_empty h key = none_if_mapped rank (slot_of_key heads key) (sym (ranks key) ∙ h key)

  pub is_first : (compare : R → R → Ordering) (key : ℕ) (least : R) → IsLeast compare slots key least → IsFirst rank compare heads key least
  is_first compare key least h = record {
    here = sym (ranks key) ∙ h.here;
    below = λ k other ne q. h.below k (rank other) ne (rank_held k other q);
  }

  -- what an index returns, in terms of the heads
  pub found_first : {P : Type 0} (compare : R → R → Ordering) (key_of : P → ℕ) (rank_of : P → R) (found : Option P) → MatchOption found (IsEmpty slots) (λ p. IsLeast compare slots (key_of p) (rank_of p)) → MatchOption found (IsEmpty heads) (λ p. IsFirst rank compare heads (key_of p) (rank_of p))
  found_first compare key_of rank_of None h = is_empty h
  found_first compare key_of rank_of (Some p) h = is_first compare (key_of p) (rank_of p) h

-- if the key holds nothing, a rank that is apart from those of the others is so from all
pub apart_from_all : {R : Type 0} (compare : R → R → Ordering) (slots : List (Option R)) (key : ℕ) (x : R) → slot_of_key slots key ≡ None → IsApartFromOthers compare slots key x → IsApart compare slots x
apart_from_all compare slots key x vacant apart k other q =
    apart k other (λ e. let no : slot_of_key slots key ≡ Some other = ap (slot_of_key slots) (sym e) ∙ q in cc) q

-- ---- a head written

module _ {T : Type 0} (heads : List (Option (Head T))) (key : ℕ) (o : Option (Head T)) (within : key < length heads) (apart : AreApart heads) (others : (h : Head T) → o ≡ Some h → IsOthers heads key h.client) where
  pub apart_set : AreApart (set heads key o)
  apart_set k h q k' other ne q' =
      elim (cases_eq k key) [
        | inl e ↦
            let here : o ≡ Some h = sym (slot_of_key-set_same heads key o within) ∙ ap (slot_of_key (set heads key o)) (sym e) ∙ q in
            let ne' : k' ≢ key = λ s. ne (s ∙ sym e) in
            others h here k' other ne' (sym (slot_of_key-set_other heads key k' o ne') ∙ q')
        | inr ne1 ↦
            let was : slot_of_key heads k ≡ Some h = sym (slot_of_key-set_other heads key k o ne1) ∙ q in
            elim (cases_eq k' key) [
              | inl e ↦
                  let here : o ≡ Some other = sym (slot_of_key-set_same heads key o within) ∙ ap (slot_of_key (set heads key o)) (sym e) ∙ q' in
                  client_turned h.client other.client false (others other here k h ne1 was)
              | inr ne2 ↦ apart k h was k' other ne (sym (slot_of_key-set_other heads key k' o ne2) ∙ q')
            ]
      ]
