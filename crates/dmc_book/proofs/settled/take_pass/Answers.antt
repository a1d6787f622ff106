use Rattle.std.proofs.Common.{◌≡◌, ◌<◌, ◌∙◌, ap, sym, subst, map, get_or, slice_set}
use Rattle.std.proofs.lemmas.List.{get_or-map, map-set}
use Rattle.dmc_ledger.specs.Accounts.{Account}
use Rattle.dmc_book.specs.PerCount.{WorkerCounts}
use Rattle.dmc_book.specs.BookState.{WorkerSide, worker_side, no_worker}
use Rattle.dmc_book.specs.Moves.{AreOf}
use Rattle.dmc_book.specs.Settling.{closed_worker}
use Rattle.dmc_book.specs.internal.Settling.{AreOneOpen}
use Rattle.dmc_book.proofs.settled.take_pass.Goals as goal

pub take_tills-requires : goal.take_tills-requires
take_tills-requires g c =
    let here = get_or-map worker_side c.args.workers.now c.args.pass.place c.index-workers-place.result no_worker c.requires.within in
    subst (λ (w : WorkerSide). AreOf c.args.pass.tills w.books) here c.requires.its

pub returns-clause-some : goal.returns-clause-some
returns-clause-some g c =
    let here = get_or-map worker_side c.args.workers.now c.args.pass.place c.index-workers-place.result no_worker c.requires.within in
    subst (λ (w : WorkerSide). 0 < w.books.calls.open_tills) (sym here) c.take_tills.ensures.some

pub returns-clause-only : goal.returns-clause-only
returns-clause-only g c = λ one. (
    let ws = c.args.workers.now in
    let x = get_or ws c.args.pass.place c.index-workers-place.result in
    let here = get_or-map worker_side ws c.args.pass.place c.index-workers-place.result no_worker c.requires.within in
    let closed = c.take_tills.ensures.only (subst (λ (w : WorkerSide). AreOneOpen w.books) here one) in
    let side : worker_side {S = g.row.S.Denot} (record { worker = x.worker; renewed = x.renewed; reach = 0; books = c.take_tills.new.books }) ≡ closed_worker (worker_side x) =
    ap (λ (bs : WorkerCounts Account). let w : WorkerSide = record { worker = x.worker.0; renewed = x.renewed; reach = 0; books = bs } in w) closed in
    map-set worker_side ws c.args.pass.place (record { worker = x.worker; renewed = x.renewed; reach = 0; books = c.take_tills.new.books })
    ∙ ap (slice_set (map worker_side ws) c.args.pass.place) (side ∙ ap closed_worker (sym here)))
