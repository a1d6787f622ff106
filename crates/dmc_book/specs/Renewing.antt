-- Sums of tokens that begin anew.
use Rattle.std.specs.Prelude.{ℕ, length, slice_index_or, slice_set}
use Rattle.dmc_ledger.specs.Accounts.{Holding, new_book, new_till}
use Rattle.dmc_book.specs.PerCount.{WorkerCounts}
use Rattle.dmc_book.specs.BookState.{BookState, PassState, WorkerSide, no_worker}

-- the worker, whose two sums of tokens begin anew after this number of events
abbrev pub renewed_worker : ℕ → WorkerSide → WorkerSide
renewed_worker events w = record w {
  renewed = events;
  books = record w.books { tokens = new_book w.books.tokens.number; granted = new_book w.books.granted.number };
}

-- the two tills of a pass hold nothing then
abbrev pub renewed_tills : WorkerCounts Holding → WorkerCounts Holding
renewed_tills tills = record tills { tokens = new_till tills.tokens.number; granted = new_till tills.granted.number }

abbrev pub renewed_pass : PassState → PassState
renewed_pass p = record p { tills = renewed_tills p.tills }

abbrev pub book_renewed : {T : Type 0} → ℕ → BookState T → BookState T
book_renewed place b = record b {
  workers = slice_set b.workers place (renewed_worker (length b.history) (slice_index_or b.workers place no_worker));
}
