-- A replayer of segments.
use Rattle.std.specs.Prelude.{◌≡◌, ℕ, ⊤, List, ◌++◌, take, Result, Ok, Err}
use Rattle.dmc_types.specs.Values.{Setting}
use Rattle.dmc_tag.specs.declared.event.Event.{Event}
use Rattle.dmc_check.specs.declared.replayer.ReplayFault.{ReplayFault}
use Rattle.dmc_check.specs.declared.replayer.ReplayFault.TheVariants.{Gap, Other, Memory}

-- the configuration and the server of the queue, and all events that were handed in
pub record ReplayerState (T : Type 0) : Type 0 where
  pub config : Setting
  pub server : ℕ
  pub events : List (Event T)

-- a first part of these events was replayed
abbrev pub AddsPart : {T : Type 0} → (old new : ReplayerState T) → List (Event T) → Type 0
AddsPart old new events = (k : ℕ) × (new ≡ record old { events = old.events ++ take k events })

-- If events are refused nothing was replayed, unless the allocator refused a growth: then a first part of them was.
abbrev pub Refuses : {T X : Type 0} → (old new : ReplayerState T) → List (Event T) → Result X ReplayFault → Type 0
Refuses old new events (Ok x) = ⊤
Refuses old new events (Err Gap) = new ≡ old
Refuses old new events (Err Other) = new ≡ old
Refuses old new events (Err Memory) = AddsPart old new events
