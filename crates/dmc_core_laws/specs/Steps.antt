-- The events that a cluster core was called with, one after the other, and the replies of its step.
use Rattle.std.specs.Prelude.{◌≡◌, ◌<◌, Bool, true, false, if◌then◌else◌, List, [], ◌∷◌, ◌++◌, map, Err}
use Rattle.dmc_types.specs.declared.ids.ClientId.{ClientId}
use Rattle.dmc_types.specs.declared.ids.ServerId.{ServerId}
use Rattle.dmc_tag.specs.Tag.{Tagging}
use Rattle.dmc_tag.specs.State.{State, opening}
use Rattle.dmc_tag.specs.declared.event.Event.{Event}
use Rattle.dmc_history_laws.specs.Bounds.{KeepsToReservations, KeepsToReservationsWithCancels}
use Rattle.dmc_scene.specs.SceneValue.{SceneValue}
use Rattle.dmc_core.specs.declared.event.CoreEvent.{CoreEvent}
use Rattle.dmc_core.specs.declared.event.CoreFault.TheVariants.{Memory}
use Rattle.dmc_core.specs.Run.{Run}
use Rattle.dmc_core.specs.Events.{answers_of, cluster_step, run_after}
use Rattle.dmc_core.specs.Core.{CoreValue, RepresentsRun, Follows}
use Rattle.dmc_core.specs.Opening.{named_rates, opening_of}
use Rattle.dmc_core_laws.specs.Histories.{Answer, is_server, queue_command, recorded_events, registrations, server_named}
use Rattle.dmc_core_laws.specs.Bounds.{GivesNothingBack, KeepsToLimitAt, KeepsToLimitWithCancelsAt, run_of, tracker_list}

-- each reply is as the contract of step says, from the core after the event before
abbrev pub Steps : {T Q : Type 0} → Tagging T → (Q → State T) → CoreValue Q → List (CoreEvent × Answer T) → CoreValue Q → Type 0
Steps {T} {Q} ops state old [] new = new ≡ old
Steps {T} {Q} ops state old (x ∷ xs) new = (middle : CoreValue Q) × Follows ops state x.0 old middle x.1 × Steps ops state middle xs new

abbrev pub wants_memory : {T : Type 0} → Answer T → Bool
wants_memory (Err Memory) = true
wants_memory answer = false

-- the events that have replies: if an allocation failed nothing happened
abbrev pub heard : {T : Type 0} → List (CoreEvent × Answer T) → List (CoreEvent × Answer T)
heard [] = []
heard (x ∷ xs) = if wants_memory x.1 then heard xs else x ∷ heard xs

-- The replies are those of the rules to these events, and the core represents the run after them.
pub record IsRunOf {T Q : Type 0} (ops : Tagging T) (state : Q → State T) (run : Run T) (steps : List (CoreEvent × Answer T)) (new : CoreValue Q) : Type 0 where
  pub answers : map (λ x. x.1) (heard steps) ≡ answers_of ops run (map (λ x. x.0) (heard steps))
  pub represents : RepresentsRun state new (run_after ops run (map (λ x. x.0) (heard steps)))

-- This holds from each run that a core represents.
abbrev pub StepsAreRuns : {T Q : Type 0} → Tagging T → (Q → State T) → Type 0
StepsAreRuns {T} {Q} ops state =
    (run : Run T) (old new : CoreValue Q) (steps : List (CoreEvent × Answer T)) → RepresentsRun state old run → Steps ops state old steps new → IsRunOf ops state run steps new

-- ---- the bounds of a core's replies

-- the events that have replies
abbrev pub replied_events : {T : Type 0} → List (CoreEvent × Answer T) → List CoreEvent
replied_events steps = map (λ x. x.0) (heard steps)

-- the events of a server's history, with the core's replies
abbrev pub replied_from : {T : Type 0} → Tagging T → ServerId → Run T → List (CoreEvent × Answer T) → List (Event T)
replied_from ops s run [] = []
replied_from ops s run (x ∷ xs) = recorded_events (is_server s (server_named x.0)) (queue_command run x.0) x.1 ++ replied_from ops s ((cluster_step ops run x.0).0) xs

-- the history of a server, with the core's replies
abbrev pub replied_history : {T : Type 0} → Tagging T → SceneValue → ServerId → List (CoreEvent × Answer T) → List (Event T)
replied_history ops scene s steps = registrations ops (opening ops scene.config) (map named_rates scene.clients) ++ replied_from ops s (opening_of ops scene) (heard steps)

-- of each core that opened for a scene and was called with these events; of a client of which no request was taken back
abbrev pub LimitOfCores : {T Q : Type 0} → Tagging T → (Q → State T) → Type 0
LimitOfCores {T} {Q} ops state =
    (scene : SceneValue) (opened new : CoreValue Q) (steps : List (CoreEvent × Answer T)) (id : ClientId) (s : ServerId) → 0 < scene.config.hz → s.0 < scene.servers
    → RepresentsRun state opened (opening_of ops scene) → Steps ops state opened steps new
    → KeepsToLimitAt ops scene.config scene.counting id s (tracker_list (run_of ops scene (replied_events steps)) id) (replied_history ops scene s steps)

abbrev pub ReservationOfCores : {T Q : Type 0} → Tagging T → (Q → State T) → Type 0
ReservationOfCores {T} {Q} ops state =
    (scene : SceneValue) (opened new : CoreValue Q) (steps : List (CoreEvent × Answer T)) (s : ServerId) → 0 < scene.config.hz → s.0 < scene.servers
    → RepresentsRun state opened (opening_of ops scene) → Steps ops state opened steps new
    → KeepsToReservations ops scene.config (replied_history ops scene s steps)

-- whatever was taken back
abbrev pub LimitOfCoresWithCancels : {T Q : Type 0} → Tagging T → (Q → State T) → Type 0
LimitOfCoresWithCancels {T} {Q} ops state =
    (scene : SceneValue) (opened new : CoreValue Q) (steps : List (CoreEvent × Answer T)) (id : ClientId) (s : ServerId) → 0 < scene.config.hz → s.0 < scene.servers
    → RepresentsRun state opened (opening_of ops scene) → Steps ops state opened steps new
    → KeepsToLimitWithCancelsAt ops scene.config scene.counting id s (tracker_list (run_of ops scene (replied_events steps)) id) (replied_history ops scene s steps)

abbrev pub ReservationOfCoresWithCancels : {T Q : Type 0} → Tagging T → (Q → State T) → Type 0
ReservationOfCoresWithCancels {T} {Q} ops state =
    (scene : SceneValue) (opened new : CoreValue Q) (steps : List (CoreEvent × Answer T)) (s : ServerId) → 0 < scene.config.hz → s.0 < scene.servers
    → RepresentsRun state opened (opening_of ops scene) → Steps ops state opened steps new
    → KeepsToReservationsWithCancels ops scene.config (replied_history ops scene s steps)

abbrev pub NothingGivenBackInCores : {T Q : Type 0} → Tagging T → (Q → State T) → Type 0
NothingGivenBackInCores {T} {Q} ops state =
    (scene : SceneValue) (opened new : CoreValue Q) (steps : List (CoreEvent × Answer T)) (s : ServerId)
    → RepresentsRun state opened (opening_of ops scene) → Steps ops state opened steps new
    → GivesNothingBack scene.counting (replied_history ops scene s steps)
