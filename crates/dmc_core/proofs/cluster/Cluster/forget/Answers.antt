use Rattle.std.proofs.Common.{◌≡◌, ◌<◌, length, set, Some, sym, ap, ◌∙◌, refl}
use Rattle.std.specs.Prelude.{slice_get, position}
use Rattle.std.proofs.lemmas.Option.{same_Some, slice_get_read}
use Rattle.dmc_tag.specs.State.{is_client}
use Rattle.dmc_core.specs.Core.{Held}
use Rattle.dmc_core.proofs.Kept.{client_kept}
use Rattle.dmc_core.proofs.Pairs.{same_keeps_grants}
use Rattle.dmc_core.proofs.Runs.{found_place}
use Rattle.dmc_core.proofs.cluster.Cluster.forget.Goals as goal

pub invariant_of-self : goal.invariant_of-self
invariant_of-self g c =
    let hs = c.self.inside.clients.items in
    let h = c.index_mut.result.now in
    let i = c.in-Ok.place in
    let inside : i < length hs = rw (← c.self.view_is) at c.in-Ok.ensures.within in
    client_kept c.self.inside.ids hs c.self.inside.servers.items c.self.invariant i h c.forget.new.self (slice_get_read hs (length hs) i h refl inside c.index_mut.ensures.value)
    (ap (λ (z : Held). z.id) c.forget.ensures) (same_keeps_grants h.pairs c.forget.new.self.pairs (ap (λ (z : Held). z.pairs) c.forget.ensures))

pub returns-clause-forgotten : goal.returns-clause-forgotten
returns-clause-forgotten g c = rw (← c.self.view_is) (λ place h first at.
    let hs = c.self.inside.clients.items in
    let i = c.in-Ok.place in
    let x = c.index_mut.result.now in
    let inside : i < length hs = rw (← c.self.view_is) at c.in-Ok.ensures.within in
    let placed : position (λ x. is_client c.args.client x.id) hs ≡ Some i = rw (← c.self.view_is) at (found_place c.args.client c.args.server c.args.self.now i (sym c.place.ensures.value ∙ c.in-Ok.is)) in
    let place_is : i ≡ place = same_Some i place (sym placed ∙ first) in
    let x_at : slice_get hs i ≡ Some x = slice_get_read hs (length hs) i x refl inside c.index_mut.ensures.value in
    let x_is : x ≡ h = same_Some x h (sym x_at ∙ ap (slice_get hs) place_is ∙ at) in
    rw (← place_is, ← x_is) (ap (λ (z : Held). set hs i z) c.forget.ensures))
