use Rattle.std.proofs.Common.{rules, refl, ◌≡◌, ◌∙◌, ap, sym, subst, slice_index_or}
use Rattle.std.proofs.lemmas.List.{get_or-map}
use Rattle.dmc_book.specs.BookState.{WorkerSide, no_worker, worker_side}
use Rattle.dmc_book.specs.Consistent.{AreWithin}
use Rattle.dmc_book.specs.internal.Consistent.{max_before}
use Rattle.dmc_book.proofs.WorkerLemmas.{counted_workers}
use Rattle.dmc_book.proofs.seat.count.Goals as goal

pub returns-clause-workers : goal.returns-clause-workers
returns-clause-workers g c =
    let x = c.index_mut.result.now in
    let is : slice_index_or c.args.workers.now.items c.args.place x ≡ x = search rules in
    counted_workers c.args.event.now c.args.workers.now.items c.args.place x (record { worker = x.worker; renewed = x.renewed; reach = x.reach; books = c.credit_all.new.books }) c.requires.within c.requires.its_worker c.requires.apart (ap (λ s. s.worker) (sym is)) (ap (λ s. s.renewed) (sym is)) (ap (λ s. s.reach) (sym is)) (rw (is, c.credit_all.ensures.books, c.numbers_of-numbers.ensures.value) refl)

pub credit_all-requires-clause-fits : goal.credit_all-requires-clause-fits
credit_all-requires-clause-fits g c =
    let x = c.index_mut.result.now in
    let is : slice_index_or c.args.workers.now.items c.args.place x ≡ x = search rules in
    subst (λ (w : WorkerSide). AreWithin max_before w.books) (get_or-map worker_side c.args.workers.now.items c.args.place x no_worker c.requires.within ∙ ap worker_side is) c.requires.fits
