use Rattle.std.proofs.Common.{◌≡◌, ◌∙◌, ap, sym, map, slice_get, Some}
use Rattle.dmc_ledger.specs.Bundles.{ClientSide, GrantHoldings, client_side, grant_holdings}
use Rattle.dmc_ledger.specs.declared.bundle.GrantTills.{GrantTills}
use Rattle.dmc_ledger.specs.declared.desk.ClientDesk.{ClientDesk}
use Rattle.dmc_book.proofs.DeskLemmas.{some_at}
use Rattle.dmc_book.proofs.desk.takes_unit.Goals as goal

pub returns : goal.returns
returns g c =
    let f : ClientDesk g.row.S.Denot → ClientSide = client_side in
    let h : GrantTills g.row.S.Denot → GrantHoldings = grant_holdings in
    let place = c.args.place in
    let d = c.in-Some-Some.desk.now in
    let u = c.in-Some-Some.unit.now in
    let desk = c.in-Some-Some.ensures.lookup in
    let unit = c.in-Some-Some.ensures'.lookup in
    let at : slice_get (map f c.args.desks.now) place ≡ Some (f d) = some_at f c.args.desks.now place d desk.3.0 ∙ ap (λ x. Some (f x)) (sym desk.1) in
    let here : slice_get (map h c.args.units.now) place ≡ Some (h u) = some_at h c.args.units.now place u unit.3.0 ∙ ap (λ x. Some (h x)) (sym unit.1) in
    rw (at, here) (rw (← c.tills_of.ensures, ← c.books_of.ensures) c.are_of_phase.ensures)
