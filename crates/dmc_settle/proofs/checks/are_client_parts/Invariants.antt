use Rattle.std.proofs.Common.{◌≡◌, ℕ, ◌<◌, [], Some, slice_get, slice_index_or}
use Rattle.dmc_scene.specs.SceneValue.{ClientValue}
use Rattle.dmc_settle.specs.internal.Places.{no_tracker}
use Rattle.dmc_settle.specs.Left.{IsClientPart}
use Rattle.dmc_settle.proofs.checks.are_client_parts.Given as goal

abbrev pub invariant-loop-c : goal.invariant-loop-c
invariant-loop-c g l = (k : ℕ) → k < l.c → (client : ClientValue) → slice_get l.scene.clients k ≡ Some client
    → IsClientPart l.scene client (slice_index_or l.trackers k no_tracker) (slice_index_or l.passes k [])
