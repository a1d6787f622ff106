-- The place of a client among the ids, and among what is held.
use Rattle.std.proofs.Common.{◌≡◌, ℕ, ◌<◌, ◌≤◌, Bool, List, length, map, nat_le, eqb, Option, Some, None, refl, sym, ap, ◌∙◌, Ok, Err, arith}
use Rattle.std.specs.Prelude.{position}
use Rattle.std.proofs.lemmas.Bool.{le-leb, leb-true, false_from_ne_true}
use Rattle.dmc_types.specs.declared.ids.ClientId.{ClientId}
use Rattle.dmc_types.specs.declared.ids.ServerId.{ServerId}
use Rattle.dmc_tag.specs.State.{is_client}
use Rattle.dmc_core.specs.declared.event.CoreFault.TheVariants.{NoClient, NoServer}
use Rattle.dmc_core.specs.Core.{Held, CoreValue}
use Rattle.dmc_core.specs.internal.Parts.{place_of}
use Rattle.dmc_lemmas.proofs.Booleans.{eqb_turned}
use Rattle.dmc_lemmas.proofs.Lists.{position_map}

-- a look-up among the ids of what is held finds the client's place
pub place_seen : (hs : List Held) (id : ClientId) → position (λ k. eqb id.0 k.0) (map (λ h. h.id) hs) ≡ position (λ h. is_client id h.id) hs
place_seen hs id =
    ap (λ (t : ClientId → Bool). position t (map (λ (h : Held). h.id) hs)) (λ j k. eqb_turned id.0 k.0 _ refl j)
    ∙ position_map (λ (h : Held). h.id) (is_client id) hs

module _ {Q : Type 0} (id : ClientId) (s : ServerId) (core : CoreValue Q) (ids : List ClientId) (named : ids ≡ map (λ h. h.id) core.clients) (found : Option ℕ) (found_is : found ≡ position (λ k. eqb id.0 k.0) ids) where
  seen : (o : Option ℕ) → found ≡ o → position (λ h. is_client id h.id) core.clients ≡ o
  seen o is = sym (place_seen core.clients id) ∙ ap (position (λ k. eqb id.0 k.0)) (sym named) ∙ sym found_is ∙ is

  pub place_none : found ≡ None → Err NoClient ≡ place_of id s core
  place_none none = let here = seen None none in rw here refl

  pub place_past : (i : ℕ) → found ≡ Some i → length core.servers ≤ s.0 → Err NoServer ≡ place_of id s core
  place_past i is past = let here = seen (Some i) is in let full = le-leb _ _ past in rw (here, full) refl

  pub place_found : (i : ℕ) → found ≡ Some i → s.0 < length core.servers → Ok i ≡ place_of id s core
  place_found i is within =
      let here = seen (Some i) is in
      let room = false_from_ne_true (nat_le (length core.servers) s.0) (λ e. absurd (omega (arith, leb-true _ _ e))) in
      rw (here, room) refl
