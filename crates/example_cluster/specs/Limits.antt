-- That one request keeps to the limits of a scene.
use Rattle.std.specs.Prelude.{ℤ, ℕ, ◌<◌, List, [], ◌∷◌}
use Rattle.dmclock_cluster.specs.Bounds.{KeepsToLimitWithCancelsAt, run_of, tracker_list}
use Rattle.dmclock_cluster.specs.CoreEvents.{Stamp, Arrive, Pull}
use Rattle.dmclock_cluster.specs.Histories.{Answer}
use Rattle.dmclock_cluster.specs.SceneValue.{SceneValue}
use Rattle.dmclock_cluster.specs.Steps.{replied_events, replied_history}
use Rattle.dmclock_cluster.specs.Types.{ClientId, CoreEvent, ServerId, tick_ops}
use Rattle.example_cluster.specs.declared.following.Replies.{Replies}

-- what a core was asked, and what it replied
abbrev pub steps_of : ClientId → ServerId → ℕ → Replies → List (CoreEvent × Answer ℤ)
steps_of client server at replies =
    (Stamp client server (record { 0 = 1 }) 1, replies.stamped)
    ∷ (Arrive client server at, replies.arrived)
    ∷ (Pull server at, replies.pulled)
    ∷ []

-- What was replied keeps to each client's limit at each server of the scene.
abbrev pub KeepsToLimits : SceneValue → List (CoreEvent × Answer ℤ) → Type 0
KeepsToLimits scene steps = (id : ClientId) (s : ServerId) → s.0 < scene.servers
    → KeepsToLimitWithCancelsAt tick_ops scene.config scene.counting id s
    (tracker_list (run_of tick_ops scene (replied_events steps)) id) (replied_history tick_ops scene s steps)
