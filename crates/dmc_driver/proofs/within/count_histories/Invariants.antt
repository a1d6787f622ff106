use Rattle.std.specs.List.{AllWithin}
use Rattle.dmc_driver.specs.Ending.{IsCounted}
use Rattle.dmc_driver.proofs.within.count_histories.Given as goal

abbrev pub invariant-loop-book : goal.invariant-loop-book
invariant-loop-book g l = AllWithin IsCounted l.books 0 l.book-index
