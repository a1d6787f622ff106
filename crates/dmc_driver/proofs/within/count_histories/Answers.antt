use Rattle.std.proofs.Common.{arith}
use Rattle.std.proofs.lemmas.List.Elements.{AllWithin-more, at_read}
use Rattle.dmc_book.specs.BookState.{BookState}
use Rattle.dmc_driver.specs.Ending.{IsCounted}
use Rattle.dmc_driver.proofs.within.count_histories.Goals as goal

pub loop-book-preserved : goal.loop-book-preserved
loop-book-preserved g c =
    let P = λ (b : BookState g.row.T.Denot). IsCounted b in
    let i = c.loop-book.book-index in
    let its : IsCounted c.book-item.result = record { workers = c.history_is_counted.ensures.workers; desks = c.history_is_counted.ensures.desks } in
    AllWithin-more P c.args.books.now 0 i c.loop-book.invariant (at_read c.args.books.now P i c.book-item.result c.loop-book-test.true c.book-item.is its)

pub returns : goal.returns
returns g c = λ k d within. c.loop-book.invariant k d (omega arith) (omega (arith, within, c.loop-book-test.false))
