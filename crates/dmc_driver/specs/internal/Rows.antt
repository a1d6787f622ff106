-- What is looked at in the rows of a report.
use Rattle.std.specs.Prelude.{◌≡◌, ℕ, List, Some, slice_get, Any}
use Rattle.dmc_scene.specs.SceneValue.{ClientValue}
use Rattle.dmc_settle.specs.declared.report.StopCause.TheVariants.{Turns}
use Rattle.dmc_settle.specs.declared.report.ClientReport.{ClientReport}
use Rattle.dmc_settle.specs.declared.report.ServerReport.{ServerReport}
use Rattle.dmc_driver.specs.Done.{IsClientDone}

-- each of the clients is done
abbrev pub AreClientsDone : List ClientValue → List ClientReport → Type 0
AreClientsDone clients rows = (k : ℕ) (client : ClientValue) (c : ClientReport) → slice_get clients k ≡ Some client
    → slice_get rows k ≡ Some c → IsClientDone client c

-- a worker of the server took its last turn
abbrev pub RanOutAt : {T : Type 0} → ServerReport T → Type 0
RanOutAt s = Any (λ cause. cause ≡ Turns) s.stops.items
