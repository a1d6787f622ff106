use Rattle.std.proofs.Common.{◌≡◌, ℕ, ◌<◌, slice_get, Some}
use Rattle.dmc_scene.specs.SceneValue.{ClientValue}
use Rattle.dmc_settle.specs.declared.report.ClientReport.{ClientReport}
use Rattle.dmc_driver.specs.Stops.{IsClientEnd}
use Rattle.dmc_driver.proofs.stops.are_client_ends.Given as goal

abbrev pub invariant-loop-i : goal.invariant-loop-i
invariant-loop-i l = (k : ℕ) (client : ClientValue) (c : ClientReport) → k < l.i
    → slice_get l.fn.clients k ≡ Some client → slice_get l.fn.rows k ≡ Some c → IsClientEnd client.requests c.sent c.stop
