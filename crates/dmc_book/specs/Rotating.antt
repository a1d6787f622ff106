-- A queue's book that releases events.
use Rattle.std.specs.Prelude.{ℕ, ◌+◌, ◌-◌, ◌<◌, ◌≤◌, ◌^◌, List, length}
use Rattle.std.specs.List.{AllByRecursion}
use Rattle.dmc_tag.specs.declared.event.Event.{Event}
use Rattle.dmc_shared.specs.Segmented.{max_released}
use Rattle.dmc_queue_history.specs.Segmented.{SegmentState}
use Rattle.dmc_ledger.specs.Accounts.{Account, total_of}
use Rattle.dmc_book.specs.PerCount.{WorkerCounts}
use Rattle.dmc_book.specs.BookState.{BookState, WorkerSide}
use Rattle.dmc_book.specs.Counts.{count, grant_cost}
use Rattle.dmc_book.specs.Moves.{IsOpen}

-- the sums of tokens leave room for the events that may be kept next
pub record AreTokensLow (books : WorkerCounts Account) : Type 0 where
  pub tokens : total_of books.tokens ≤ 2 ^ 62
  pub granted : total_of books.granted ≤ 2 ^ 62

-- A segment is released: not too many events were recorded, the tokens of each worker that was not dismissed are low, all grants
-- cost at most 2^62 together, and nothing is settled.
pub record MayRotate {T : Type 0} (history : List (Event T)) (first most : ℕ) (workers : List WorkerSide) : Type 0 where
  pub long : length history ≤ max_released
  pub cheap : count grant_cost history ≤ 2 ^ 62
  pub low : AllByRecursion (λ w. IsOpen w → AreTokensLow w.books) workers
  pub goes_on : first < most

-- the segment: the history so far, of which it has the last events, from the number `first` on
abbrev pub segment_of : {T : Type 0} → BookState T → SegmentState T
segment_of b = record { config = b.config; server = b.server; number = b.number; history = b.history; first = b.first }

-- all events are released, and as many as before may be kept
abbrev pub after_rotating : {T : Type 0} → BookState T → BookState T
after_rotating b = record b { first = length b.history; most = length b.history + (b.most - b.first) }
