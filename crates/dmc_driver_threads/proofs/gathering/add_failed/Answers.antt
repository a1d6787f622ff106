use Rattle.std.proofs.Common.{refl}
use Rattle.std.proofs.Math.Seq.{map-set_same}
use Rattle.dmc_settle.specs.declared.report.ClientReport.{ClientReport}
use Rattle.dmc_driver_threads.proofs.gathering.add_failed.Goals as goal

pub returns-then-place-rows : goal.returns-then-place-rows
returns-then-place-rows c = map-set_same (λ (r : ClientReport). r.client) c.args.rows.now c.args.place _ _ refl
