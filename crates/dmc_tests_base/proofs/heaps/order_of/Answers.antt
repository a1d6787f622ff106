-- Each key's rank names another client, so the ranks are apart.
use Rattle.std.proofs.Common.{◌≡◌, ℕ, ◌+◌, ◌<◌, Option, Some, None, IsSome, List, length, set, refl, sym, ap, ◌∙◌, subst, inl, inr, arith}
use Rattle.std.specs.declared.cmp.Ordering.{Ordering}
use Rattle.std.specs.declared.cmp.Ordering.TheVariants.{Less, Equal, Greater}
use Rattle.std.specs.Ordering.{MatchOrdering, nat_cmp, ordering_then}
use Rattle.std.proofs.lemmas.Cmp.{ranked}
use Rattle.std.proofs.lemmas.Bool.{cases_eq}
use Rattle.std.proofs.lemmas.List.{length-set, get_or-set_same, get_or-set_other}
use Rattle.dmc_tag.specs.declared.rank.TagRank.{TagRank}
use Rattle.dmc_index.specs.Index.{slot_of_key}
use Rattle.dmc_lemmas.proofs.Options.{option_cases}
use Rattle.std.proofs.lemmas.Option.{same_Some}
use Rattle.dmc_tests_base.proofs.heaps.order_of.Goals as goal

tied : (tags : Ordering) (x y : ℕ) → ordering_then tags (nat_cmp x y) ≡ Equal → x ≡ y
tied Less x y e = cc
tied Equal x y e = subst (λ r. MatchOrdering r (x < y) (x ≡ y) (y < x)) e (ranked x y (nat_cmp x y) refl)
tied Greater x y e = cc

pub insert-requires-clause-apart : goal.insert-requires-clause-apart
insert-requires-clause-apart g c k other h e =
    let at = c.loop-key.invariant.clients k other h in
    let same = tied _ c.loop-key.key other.client.0 e in
    omega arith

pub insert-requires-clause-vacant : goal.insert-requires-clause-vacant
insert-requires-clause-vacant g c =
    option_cases (slot_of_key (g.I.OrderIndex.slots c.loop-key.index) c.loop-key.key) (λ none. none) (λ r some. let at = c.loop-key.invariant.clients c.loop-key.key r some in absurd (omega arith))

module _ {T : Type 0} (old : List (Option (TagRank T))) (key : ℕ) (rank : TagRank T) (in' : key < length old) (own : rank.client.0 ≡ key) where
  all_after : ((k : ℕ) → k < key → IsSome (slot_of_key old k)) → (k : ℕ) → k < key + 1 → IsSome (slot_of_key (set old key (Some rank)) k)
  all_after all k l =
      elim (cases_eq k key) [
        | inl s ↦ subst IsSome (sym (ap (slot_of_key (set old key (Some rank))) s ∙ get_or-set_same old key (Some rank) None in')) refl
        | inr p ↦ subst IsSome (sym (get_or-set_other old key k (Some rank) None p)) (all k (omega arith))
      ]

  clients_after : ((k : ℕ) (r : TagRank T) → slot_of_key old k ≡ Some r → (k < key) × (r.client.0 ≡ k)) → (k : ℕ) (r : TagRank T) → slot_of_key (set old key (Some rank)) k ≡ Some r → (k < key + 1) × (r.client.0 ≡ k)
  clients_after clients k r h =
      elim (cases_eq k key) [
        | inl s ↦ let same : rank ≡ r = same_Some rank r (sym (get_or-set_same old key (Some rank) None in') ∙ ap (slot_of_key (set old key (Some rank))) (sym s) ∙ h) in (omega (arith, s), ap (λ (x : TagRank T). x.client.0) (sym same) ∙ own ∙ sym s)
        | inr p ↦ let at = clients k r (sym (get_or-set_other old key k (Some rank) None p) ∙ h) in (omega (arith, at.0), at.1)
      ]

pub loop-key-preserved : goal.loop-key-preserved
loop-key-preserved g c =
    let old = g.I.OrderIndex.slots c.loop-key.index in
    let in' : c.loop-key.key < length old = omega (arith, c.loop-key.invariant.room) in
    rw c.insert.ensures (record {
      room = length-set old c.loop-key.key _ ∙ c.loop-key.invariant.room;
      tags = refl;
      all = all_after old c.loop-key.key _ in' refl c.loop-key.invariant.all;
      clients = clients_after old c.loop-key.key _ in' refl c.loop-key.invariant.clients;
    })
