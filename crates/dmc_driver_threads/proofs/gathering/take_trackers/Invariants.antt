-- The books that were taken, and the locks that are left.
use Rattle.std.specs.Prelude.{◌≡◌, ◌+◌, ◌≤◌, All, length, vec_capacity}
use Rattle.std.specs.Vec.Iter.{into_iter_len}
use Rattle.dmc_driver_threads.specs.Opened.{IsOpenedTracker}
use Rattle.dmc_driver_threads.proofs.gathering.take_trackers.Given as goal

abbrev pub invariant-loop-lock : goal.invariant-loop-lock
invariant-loop-lock g l = record {
  trackers : All (IsOpenedTracker g.S.Origin.scene g.S.Origin.limits) l.books.items;
  count : length l.books.items + into_iter_len l.lock-iterator ≡ length l.fn.locks.items;
  fits : length l.fn.locks.items ≤ vec_capacity l.books;
}
