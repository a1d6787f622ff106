use Rattle.std.proofs.Common.{refl}
use Rattle.std.proofs.Math.Seq.{map-set_same}
use Rattle.dmc_settle.specs.declared.report.ServerReport.{ServerReport}
use Rattle.dmc_driver_threads.proofs.gathering.add_stops_at.Goals as goal

pub returns-then-server-rows : goal.returns-then-server-rows
returns-then-server-rows g c =
    map-set_same (λ (r : ServerReport g.row.T.Denot). r.server) c.args.rows.now c.args.server _ c.index-rows-server.result refl
