use Rattle.std.proofs.Common.{rules, ◌≡◌, ◌∙◌, ap, refl, map, slice_get, Some}
use Rattle.std.specs.Prelude.{◌==◌}
use Rattle.std.specs.List.{position}
use Rattle.std.specs.Option.{option_map}
use Rattle.std.specs.Arc.{arc_value}
use Rattle.std.proofs.lemmas.Option.{slice_get-map}
use Rattle.dmc_types.specs.declared.ids.ClientId.{ClientId}
use Rattle.dmc_ledger.specs.Bundles.{GrantHoldings, grant_holdings}
use Rattle.dmc_ledger.specs.declared.bundle.GrantTills.{GrantTills}
use Rattle.dmc_book.proofs.pass.WorkerPass.grant_tills.Goals as goal

pub returns : goal.returns
returns g c =
    let f : GrantTills g.row.S.Denot → GrantHoldings = grant_holdings in
    let items = c.args.self.now.units.items in
    let here : position (λ (k : ClientId). c.args.client.0 == k.0) (arc_value c.args.self.now.clients).keys ≡ Some c.in_ok-place.place = search rules in
    let at : slice_get items c.in_ok-place.place ≡ Some c.in_ok-unit.unit.now = search rules in
    let seen : slice_get (map f items) c.in_ok-place.place ≡ Some (f c.in_ok-unit.unit.now) = slice_get-map f items c.in_ok-place.place ∙ ap (option_map f) at in
    rw (here, at, seen) (refl, record { writes_back = tt; value = ap Some c.tills_mut.ensures.value })
