-- The turns of a round, one by one.
use Rattle.std.specs.Prelude.{◌≡◌, ℕ, ◌+◌, ◌<◌, ◌&&◌, if◌then◌else◌, List, length, slice_index_or, Option, Some, None, Ok, Err}
use Rattle.dmc_types.specs.declared.ids.ClientId.{ClientId}
use Rattle.dmc_types.specs.declared.config.PhaseType.{PhaseType}
use Rattle.dmc_types.specs.declared.config.PhaseType.TheVariants.{Reservation}
use Rattle.dmc_tag.specs.State.{State, is_client}
use Rattle.dmc_tag.specs.declared.reply.Reply.TheVariants as replies
use Rattle.dmc_scene.specs.SceneValue.{SceneValue}
use Rattle.dmc_core.specs.Core.{CoreValue, RepresentsRun}
use Rattle.dmc_core.specs.declared.event.CoreReply.TheVariants.{Served}
use Rattle.dmc_core.specs.declared.event.CoreFault.TheVariants as core
use Rattle.dmc_sim.specs.Simulation.{Sim, Returned, is_phase, plan_of}
use Rattle.dmc_sim.specs.Reports.{end_of}
use Rattle.dmc_sim.specs.declared.client.SimClient.{SimClient}
use Rattle.dmc_sim.specs.declared.report.ServerReport.{ServerReport}
use Rattle.dmc_sim.specs.declared.report.SimFault.{SimFault}
use Rattle.dmc_sim.specs.declared.report.SimFault.TheVariants.{Refused, Memory}
use Rattle.dmc_sim.specs.internal.Simulations.{AllAt, AreGrants, ClientsAt, IsCounted}

-- a client that has sent nothing
pub record IsIdle (scene : SceneValue) (c : SimClient) : Type 0 where
  pub plan : c.plan.items ≡ plan_of scene c.scene
  pub sent : c.sent ≡ 0
  pub completed : c.completed ≡ 0
  pub reservation : c.reservation ≡ 0

-- one more completion is counted if the client has this id
pub record Completes (id : ClientId) (phase : PhaseType) (old new : SimClient) : Type 0 where
  pub scene : new.scene ≡ old.scene
  pub plan : new.plan.items ≡ old.plan.items
  pub sent : new.sent ≡ old.sent
  pub completed : new.completed ≡ old.completed + (if is_client old.scene.id id then 1 else 0)
  pub reservation : new.reservation ≡ old.reservation + (if is_client old.scene.id id && is_phase Reservation phase then 1 else 0)

abbrev pub CompletesOne : ClientId → PhaseType → List SimClient → List SimClient → Type 0
CompletesOne id phase old new = (k : ℕ) (c : SimClient) → k < length old → Completes id phase (slice_index_or old k c) (slice_index_or new k c)

-- ---- a simulation

-- the core and one client represent a simulation
pub record ClientAt {T Q : Type 0} (state : Q → State T) (scene : SceneValue) (core : CoreValue Q) (c : SimClient) (sim : Sim T) : Type 0 where
  pub run : RepresentsRun state core sim.run
  pub counted : IsCounted scene sim.trace c

-- the core, all clients and one server represent a simulation
pub record ServerAt {T Q : Type 0} (state : Q → State T) (scene : SceneValue) (core : CoreValue Q) (clients : List SimClient) (row : ServerReport) (sim : Sim T) : Type 0 where
  pub at : ClientsAt state scene core clients sim
  pub grants : AreGrants sim.trace row

-- ---- how a call ends

-- how a returned value ends the code: with the refusal of a queue, or an allocation failure
abbrev pub fault_in : {T : Type 0} → Returned T → Option SimFault
fault_in (Ok (Served (replies.Refused refusal))) = Some (Refused refusal)
fault_in (Err core.Memory) = Some Memory
fault_in returned = None

-- the simulation after the rounds, and the moment of the last
pub record HasRun {T Q : Type 0} (state : Q → State T) (scene : SceneValue) (core : CoreValue Q) (clients : List SimClient) (rows : List ServerReport) (end : ℕ) (last : ℕ × Sim T) : Type 0 where
  pub at : AllAt state scene core clients rows last.1
  pub end_is : end ≡ end_of scene last.0
