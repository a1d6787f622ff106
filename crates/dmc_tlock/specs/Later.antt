-- What a call of a tracker's book leaves as it was: every call but a rotation, and a rotation.
use Rattle.std.specs.Prelude.{◌≡◌, ◌≤◌, map}
use Rattle.dmc_shared.specs.Later.{side_numbers}
use Rattle.dmc_tlock.specs.BookState.{BookState}

-- Every call but a rotation leaves the client, the number of the list, the counting form, how far the tracker counts, how many
-- entries were released, how many may be kept, and the numbers of the desks.
pub record IsLater (old new : BookState) : Type 0 where
  pub client : new.client ≡ old.client
  pub number : new.number ≡ old.number
  pub counting : new.tracker.counting ≡ old.tracker.counting
  pub most : new.tracker.most ≡ old.tracker.most
  pub first : new.first ≡ old.first
  pub max_events : new.max_events ≡ old.max_events
  pub desks : map side_numbers new.desks ≡ map side_numbers old.desks

-- A rotation leaves all but how many entries were released, of which there are no fewer.
pub record IsReleased (old new : BookState) : Type 0 where
  pub client : new.client ≡ old.client
  pub number : new.number ≡ old.number
  pub tracker : new.tracker ≡ old.tracker
  pub events : new.events ≡ old.events
  pub first : old.first ≤ new.first
  pub max_events : new.max_events ≡ old.max_events
  pub desks : new.desks ≡ old.desks
