-- Which simulations the data of the code represents, and that its calls end as the definition does.
use Rattle.std.specs.Prelude.{◌≡◌, ℕ, ◌+◌, ◌<◌, ◌==◌, ◌&&◌, Bool, false, ⊤, nat_lt, List, length, map, All, slice_index_or, Result, Ok, Err}
use Rattle.dmc_types.specs.declared.config.PhaseType.TheVariants.{Reservation, Priority}
use Rattle.dmc_types.specs.declared.refusal.Refusal.{Refusal}
use Rattle.dmc_tag.specs.Tag.{Tagging}
use Rattle.dmc_tag.specs.State.{State}
use Rattle.dmc_scene.specs.SceneValue.{SceneValue}
use Rattle.dmc_core.specs.Core.{CoreValue, RepresentsRun}
use Rattle.dmc_core.specs.declared.event.CoreEvent.{CoreEvent}
use Rattle.dmc_core.specs.Events.{cluster_step}
use Rattle.dmc_sim.specs.Simulation.{Entry, Sim, Returned, after_event, sent_by, completed_by, reserved_by, granted_by, plan_of, servers_of}
use Rattle.dmc_sim.specs.Reports.{cost_of, end_of, server_row}
use Rattle.dmc_sim.specs.declared.client.SimClient.{SimClient}
use Rattle.dmc_sim.specs.declared.report.ServerReport.{ServerReport}
use Rattle.dmc_sim.specs.declared.report.SimFault.{SimFault}
use Rattle.dmc_sim.specs.declared.report.SimFault.TheVariants.{Refused, Memory}

-- ---- clients and servers

-- its plan is that of the scene, and its numbers are those of the trace
pub record IsCounted {T : Type 0} (scene : SceneValue) (trace : List (Entry T)) (c : SimClient) : Type 0 where
  pub plan : c.plan.items ≡ plan_of scene c.scene
  pub sent : c.sent ≡ sent_by c.scene.id trace
  pub completed : c.completed ≡ completed_by c.scene.id trace
  pub reservation : c.reservation ≡ reserved_by c.scene.id trace

-- its grants are those of the trace
pub record AreGrants {T : Type 0} (trace : List (Entry T)) (row : ServerReport) : Type 0 where
  pub reservation : row.reservation ≡ granted_by row.server Reservation trace
  pub priority : row.priority ≡ granted_by row.server Priority trace

-- it has requests left, and fewer outstanding than its window
abbrev pub has_next : SimClient → Bool
has_next c = nat_lt c.sent (c.completed + c.scene.window) && nat_lt c.sent c.scene.requests

-- all its requests are completed
abbrev pub is_complete : SimClient → Bool
is_complete c = c.completed == c.scene.requests

-- a client without a mark may not send
abbrev pub AreMarked : List Bool → List SimClient → Type 0
AreMarked marks clients = (k : ℕ) (c : SimClient) → k < length clients → slice_index_or marks k false ≡ false → has_next (slice_index_or clients k c) ≡ false

-- ---- a simulation

-- the core and all clients represent a simulation
pub record ClientsAt {T Q : Type 0} (state : Q → State T) (scene : SceneValue) (core : CoreValue Q) (clients : List SimClient) (sim : Sim T) : Type 0 where
  pub run : RepresentsRun state core sim.run
  pub counted : All (IsCounted scene sim.trace) clients

-- the core, all clients and all servers represent a simulation
pub record AllAt {T Q : Type 0} (state : Q → State T) (scene : SceneValue) (core : CoreValue Q) (clients : List SimClient) (rows : List ServerReport) (sim : Sim T) : Type 0 where
  pub at : ClientsAt state scene core clients sim
  pub grants : All (AreGrants sim.trace) rows

-- the result of the definition is a value, of which P holds
pub record Gives {X : Type 0} (given : Result X Refusal) (P : X → Type 0) : Type 0 where
  pub value : X
  pub is : given ≡ Ok value
  pub holds : P value

-- A call ends as the definition does: with a value of which this holds, or with the refusal. After an allocation failure nothing
-- is claimed.
abbrev pub Ends : {X A : Type 0} → Result X Refusal → (A → X → Type 0) → Result A SimFault → Type 0
Ends given After (Ok done) = Gives given (After done)
Ends given After (Err (Refused refusal)) = given ≡ Err refusal
Ends given After (Err Memory) = ⊤

-- the simulation after an event, which returned this
pub record IsAfter {T Q : Type 0} (ops : Tagging T) (state : Q → State T) (event : CoreEvent) (sim : Sim T) (core : CoreValue Q) (returned : Returned T) (next : Sim T) : Type 0 where
  pub returned_is : (cluster_step ops sim.run event).1 ≡ returned
  pub next_is : next ≡ after_event ops event sim
  pub run : RepresentsRun state core next.run

-- the end of the simulation: its clients and servers, and the moment of the last round
pub record IsLast {T : Type 0} (scene : SceneValue) (clients : List SimClient) (rows : List ServerReport) (end : ℕ) (last : ℕ × Sim T) : Type 0 where
  pub counted : All (IsCounted scene last.1.trace) clients
  pub costs : All (λ c. c.cost ≡ cost_of last.1.run c.scene.id) clients
  pub rows_are : rows ≡ map (server_row last.1) (servers_of scene)
  pub end_is : end ≡ end_of scene last.0
