-- The books that were taken, and the locks that are left.
use Rattle.std.specs.Prelude.{◌≡◌, ◌+◌, ◌≤◌, All, length, vec_capacity}
use Rattle.std.specs.Vec.Iter.{into_iter_len}
use Rattle.dmc_driver_threads.specs.Opened.{IsWitnessed}
use Rattle.dmc_driver_threads.proofs.gathering.take_books.Given as goal

abbrev pub invariant-loop-lock : goal.invariant-loop-lock
invariant-loop-lock g l = record {
  books : All (IsWitnessed g.W.Witness.holds) l.books.items;
  count : length l.books.items + into_iter_len l.lock-iterator ≡ length l.fn.locks.items;
  fits : length l.fn.locks.items ≤ vec_capacity l.books;
}
