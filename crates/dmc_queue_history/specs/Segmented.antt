-- What contracts see of a segment of a queue's history.
use Rattle.std.specs.Prelude.{ℕ, List}
use Rattle.dmc_types.specs.Values.{Setting}
use Rattle.dmc_tag.specs.declared.event.Event.{Event}

-- The configuration and the server of the queue, the number of its history in the set-up, its history up to the segment's end,
-- and how many events of that were released before.
pub record SegmentState (T : Type 0) : Type 0 where
  pub config : Setting
  pub server : ℕ
  pub number : ℕ
  pub history : List (Event T)
  pub first : ℕ
