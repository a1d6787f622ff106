-- How a run ends.
use Rattle.std.specs.Prelude.{◌≡◌, ℕ, [], Some, None, slice_get, All, Any}
use Rattle.dmc_scene.specs.SceneValue.{SceneValue, ClientValue}
use Rattle.dmc_settle.specs.declared.report.StopCause.TheVariants.{Turns}
use Rattle.dmc_settle.specs.declared.report.ClientReport.{ClientReport}
use Rattle.dmc_settle.specs.declared.report.ServerReport.{ServerReport}
use Rattle.dmc_settle.specs.declared.report.ClusterReport.{ClusterReport}

-- the client sent and completed its requests, has nothing left, and did not stop
pub record IsClientDone (client : ClientValue) (r : ClientReport) : Type 0 where
  pub sent : r.sent ≡ client.requests
  pub completed : r.completed ≡ client.requests
  pub stamps : r.held.stamps ≡ 0
  pub delta : r.held.delta ≡ 0
  pub rho : r.held.rho ≡ 0
  pub stop : r.stop ≡ None

-- the server has nothing queued and no grant that was not responded, and no worker of it stopped
pub record IsServerDone {T : Type 0} (r : ServerReport T) : Type 0 where
  pub left : r.left ≡ 0
  pub reservation : r.held.reservation ≡ 0
  pub priority : r.held.priority ≡ 0
  pub stops : r.stops.items ≡ []

-- all was done
pub record IsDone {T : Type 0} (scene : SceneValue) (r : ClusterReport T) : Type 0 where
  pub clients : (k : ℕ) (client : ClientValue) (c : ClientReport) → slice_get scene.clients k ≡ Some client
      → slice_get r.clients.items k ≡ Some c → IsClientDone client c
  pub servers : All IsServerDone r.servers.items

-- some server's worker took its last turn
abbrev pub RanOut : {T : Type 0} → ClusterReport T → Type 0
RanOut r = Any (λ s. Any (λ cause. cause ≡ Turns) s.stops.items) r.servers.items
