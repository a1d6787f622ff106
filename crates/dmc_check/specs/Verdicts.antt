-- Whether recorded events replay.
use Rattle.std.specs.Prelude.{◌≡◌, ℕ, List, length, take, Option, Some, None, slice_get}
use Rattle.dmc_types.specs.Values.{Setting}
use Rattle.dmc_tag.specs.Tag.{Tagging}
use Rattle.dmc_tag.specs.State.{State}
use Rattle.dmc_tag.specs.Step.{step}
use Rattle.dmc_tag.specs.Replay.{after, replays}
use Rattle.dmc_tag.specs.declared.event.Event.{Event}
use Rattle.dmc_pull.specs.Queue.{state_of}
use Rattle.dmc_check.specs.declared.replay.Replay.{Replay}
use Rattle.dmc_check.specs.declared.check.Verdict.{Verdict}
use Rattle.dmc_check.specs.declared.check.Verdict.TheVariants.{Replays, Differs}

-- The events before i replay, and the reply of the one at i is not that of step in the state after them.
pub record DiffersAt {T : Type 0} (ops : Tagging T) (config : Setting) (events : List (Event T)) (i : ℕ) : Type 0 where
  pub event : Event T
  pub at : slice_get events i ≡ Some event
  pub before : replays ops config (take i events)
  pub other : event.reply ≡ (step ops (after ops config (take i events)) event.command).1 → ⊥

-- the events replay, or i is the first that does not
abbrev pub IsVerdict : {T : Type 0} → Tagging T → Setting → List (Event T) → Verdict → Type 0
IsVerdict ops config events Replays = replays ops config events
IsVerdict ops config events (Differs i) = DiffersAt ops config events i

-- up to the first difference the queue holds the state after the events
abbrev pub SoFar : {T : Type 0} → Tagging T → Setting → List (Event T) → State T → Option ℕ → Type 0
SoFar ops config events s None = replays ops config events × (s ≡ after ops config events)
SoFar ops config events s (Some i) = DiffersAt ops config events i

-- what a replay has after these events
pub record RepresentsEvents {T : Type 0} (ops : Tagging T) (config : Setting) (events : List (Event T)) (replay : Replay T) : Type 0 where
  pub count : replay.events ≡ length events
  pub so_far : SoFar ops config events (state_of replay.queue) replay.difference
