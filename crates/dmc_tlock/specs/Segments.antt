-- A tracker's list that is released in segments.
use Rattle.std.specs.Prelude.{ℕ, List, length}
use Rattle.dmc_types.specs.declared.config.Counting.{Counting}
use Rattle.dmc_tracker.specs.declared.event.TrackerEvent.{TrackerEvent}
use Rattle.dmc_tlock.specs.BookState.{BookState}

-- What contracts see of a segment: whose list it is of, in which counting form, the number of the list in the set-up, the list up
-- to the segment's end, and how many entries of that were released before.
pub record TrackerSegmentState : Type 0 where
  pub client : ℕ
  pub counting : Counting
  pub number : ℕ
  pub history : List TrackerEvent
  pub first : ℕ

-- the segment: the list so far, of which it has the last, from the number `first` on
abbrev pub segment_of : BookState → TrackerSegmentState
segment_of b = record { client = b.client; counting = b.tracker.counting; number = b.number; history = b.events; first = b.first }

-- all entries are released
abbrev pub after_rotating : BookState → BookState
after_rotating b = record b { first = length b.events }
