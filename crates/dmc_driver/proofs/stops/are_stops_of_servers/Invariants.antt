use Rattle.std.proofs.Common.{◌≡◌, ℕ, ◌<◌, Option, Some, slice_get}
use Rattle.std.specs.Global.{Vec}
use Rattle.dmc_settle.specs.declared.report.StopCause.{StopCause}
use Rattle.dmc_settle.specs.declared.report.ServerReport.{ServerReport}
use Rattle.dmc_driver.specs.Stops.{AreServerStops}
use Rattle.dmc_driver.proofs.stops.are_stops_of_servers.Given as goal

abbrev pub invariant-loop-k : goal.invariant-loop-k
invariant-loop-k g l = (k : ℕ) (s : ServerReport g.row.T.Denot) (own : Vec (Option StopCause)) → k < l.k
    → slice_get l.fn.rows k ≡ Some s → slice_get l.fn.ends k ≡ Some own → AreServerStops l.fn.scene k own.items s
