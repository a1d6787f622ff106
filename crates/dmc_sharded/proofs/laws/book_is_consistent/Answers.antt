use Rattle.dmc_sharded.proofs.laws.book_is_consistent.Goals as goal

pub returns : goal.returns
returns g c = rw (← c.book.view_is) c.book.invariant
