use Rattle.std.proofs.Common.{◌≡◌, ◌<◌, length, Some, None, eqb, sym, ap, ◌∙◌, refl}
use Rattle.std.specs.Prelude.{position}
use Rattle.std.proofs.lemmas.List.{length-map}
use Rattle.std.proofs.lemmas.Option.{slice_get_read}
use Rattle.dmc_tag.specs.State.{is_client}
use Rattle.dmc_core.specs.Core.{Held}
use Rattle.dmc_core.proofs.Lists.{found_at, found_none}
use Rattle.dmc_core.proofs.Places.{place_seen}
use Rattle.dmc_core.proofs.cluster.Cluster.completions.Goals as goal

pub returns : goal.returns
returns g c =
    let hs = c.self.inside.clients.items in
    let id = c.args.client in
    let is : position (λ h. is_client id h.id) hs ≡ Some c.in_ok-place.place = sym (place_seen hs id) ∙ ap (position (λ k. eqb id.0 k.0)) (sym c.self.invariant.named) ∙ sym c.place.ensures.index ∙ c.in_ok-place.was in
    let h = c.index.result.now in
    let within : c.in_ok-place.place < length hs = simp length-map at (rw c.self.invariant.named at c.in_ok-place.ensures.within) in
    rw (← c.self.view_is, found_at (λ (h : Held). is_client id h.id) hs c.in_ok-place.place is, slice_get_read hs (length hs) c.in_ok-place.place h refl within c.index.ensures) (ap Some c.completions.ensures)

pub returns-in_err-place : goal.returns-in_err-place
returns-in_err-place g c =
    let hs = c.self.inside.clients.items in
    let id = c.args.client in
    let is : position (λ h. is_client id h.id) hs ≡ None = sym (place_seen hs id) ∙ ap (position (λ k. eqb id.0 k.0)) (sym c.self.invariant.named) ∙ sym c.place.ensures.index ∙ c.in_err-place.was in
    rw (← c.self.view_is, found_none (λ (h : Held). is_client id h.id) hs is) c.from_residual.ensures
