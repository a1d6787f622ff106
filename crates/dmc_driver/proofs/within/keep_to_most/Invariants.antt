use Rattle.std.proofs.Common.{◌≤◌, length}
use Rattle.std.specs.List.{AllWithin}
use Rattle.dmc_book.specs.BookState.{BookState}
use Rattle.dmc_driver.proofs.within.keep_to_most.Given as goal

abbrev pub invariant-loop-book : goal.invariant-loop-book
invariant-loop-book g l = AllWithin (λ (b : BookState g.row.T.Denot). length b.history ≤ b.most) l.books 0 l.book-index
