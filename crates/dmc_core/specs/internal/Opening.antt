-- A cluster before its first event.
use Rattle.std.specs.Prelude.{ℕ, map, replicate}
use Rattle.dmc_types.specs.declared.config.Counting.{Counting}
use Rattle.dmc_tag.specs.Tag.{Tagging}
use Rattle.dmc_tag.specs.State.{State, opening}
use Rattle.dmc_tag.specs.Replay.{state_after}
use Rattle.dmc_tracker.specs.Numbers.{new_numbers}
use Rattle.dmc_scene.specs.SceneValue.{SceneValue, ClientValue}
use Rattle.dmc_core.specs.Run.{max_completions, no_pair}
use Rattle.dmc_core.specs.Events.{registration}
use Rattle.dmc_core.specs.Core.{Held, no_room}
use Rattle.dmc_core.specs.Opening.{named_rates}

-- each server's plain state
abbrev pub opening_state : {T : Type 0} → Tagging T → SceneValue → State T
opening_state ops scene = state_after ops (opening ops scene.config) (map registration (map named_rates scene.clients))

-- a client as the core holds it: nothing is counted, and nothing is under way
abbrev pub opening_client : Counting → ℕ → ClientValue → Held
opening_client counting servers c = record {
  id = c.id;
  tracker = new_numbers counting max_completions servers;
  pairs = replicate servers no_pair;
  rooms = replicate servers no_room;
}
