use Rattle.std.proofs.Common.{◌≡◌, ◌+◌, ◌++◌, ◌∙◌, ap, drop, length, map, refl, sym, slice_index_or, slice_set, arith}
use Rattle.std.specs.Arc.{arc_value}
use Rattle.std.proofs.lemmas.List.{drop-map, get_or-drop, get_or-map, length-map, map-set}
use Rattle.dmc_ledger.specs.Bundles.{ClientSide, GrantHoldings, client_side, grant_holdings}
use Rattle.dmc_ledger.specs.declared.bundle.GrantTills.{GrantTills}
use Rattle.dmc_ledger.specs.declared.desk.ClientDesk.{ClientDesk}
use Rattle.dmc_book.specs.BookState.{WorkerSide, no_desk, no_worker, worker_side}
use Rattle.dmc_book.specs.Joining.{id_of, units_from}
use Rattle.dmc_book.specs.Opening.{new_unit}
use Rattle.dmc_book.specs.declared.seat.Seat.{Seat}
use Rattle.dmc_book.proofs.OpeningLemmas.{names_by_sides}
use Rattle.dmc_book.proofs.extending.open_rest.Goals as goal

pub open_units-requires-clause-some_left : goal.open_units-requires-clause-some_left
open_units-requires-clause-some_left g c = λ k l. (
    let f : ClientDesk g.row.S.Denot → ClientSide = client_side in
    let desks = c.args.desks.now in
    let from = c.len.result in
    let many : from ≡ length c.args.pass.now.units.items = c.len.ensures ∙ c.args.pass.now.units.ok.0 in
    let same : slice_index_or (map f c.split_at_mut-later.result.1.now) k no_desk ≡ slice_index_or (map f desks) (from + k) no_desk =
    ap (λ ds. slice_index_or (map f ds) k no_desk) c.split_at_mut-later.ensures.back ∙ ap (λ ds. slice_index_or ds k no_desk) (sym (drop-map f from desks)) ∙ get_or-drop from (map f desks) k no_desk in
    rw same (c.requires.some_left (from + k) (omega (arith, many)) (omega (arith, l, c.split_at_mut-later.ensures.back_len))))

pub returns-clause-workers : goal.returns-clause-workers
returns-clause-workers g c =
    let f : Seat g.row.S.Denot → WorkerSide = worker_side in
    let seats = c.args.workers.now.items in
    let place = c.args.pass.now.place in
    let x = c.index_mut.result.now in
    let n = length c.args.desks.now in
    let here = get_or-map f seats place x no_worker c.requires.within ∙ ap f (sym c.index_mut.ensures.value) in
    map-set f seats place (record { worker = x.worker; renewed = x.renewed; reach = n; books = x.books })
    ∙ ap (slice_set (map f seats) place) (ap (λ (w : WorkerSide). let reached : WorkerSide = record w { reach = n } in reached) (sym here))

pub returns-clause-pass : goal.returns-clause-pass
returns-clause-pass g c =
    let f : ClientDesk g.row.S.Denot → ClientSide = client_side in
    let t : GrantTills g.row.S.Denot → GrantHoldings = grant_holdings in
    let desks = c.args.desks.now in
    let old = map t c.args.pass.now.units.items in
    let many : c.len.result ≡ length old = c.len.ensures ∙ c.args.pass.now.units.ok.0 ∙ sym (length-map c.args.pass.now.units.items t) in
    let names : (arc_value c.args.clients).keys ≡ map id_of (map f desks) = c.requires.named ∙ names_by_sides desks in
    let later : map f c.split_at_mut-later.result.1.now ≡ drop (length old) (map f desks) =
    ap (map f) c.split_at_mut-later.ensures.back ∙ sym (drop-map f c.len.result desks) ∙ ap (λ n. drop n (map f desks)) many in
    let units : map t c.open_units.new.units.items ≡ units_from old (map f desks) = c.open_units.ensures.units ∙ ap (λ ds. old ++ map new_unit ds) later in
    rw (names, units) refl
