use Rattle.dmc_driver_threads.proofs.RowLemmas.{rows_kept}
use Rattle.dmc_driver_threads.proofs.workers.run_opened.Goals as goal

pub returns-clause-books : goal.returns-clause-books
returns-clause-books g c = λ k d within. (c.gather.ensures.books k d within).1

pub returns-clause-rows : goal.returns-clause-rows
returns-clause-rows g c =
    rows_kept g.S.Origin.scene c.args.opened.remains.report c.gather.new.remains.report c.gather.ensures.clients c.gather.ensures.servers c.requires.rows
