use Rattle.std.proofs.Common.{rules}
use Rattle.dmc_tool.proofs.RunEnds.{written_done, written_fault}
use Rattle.dmc_tool.proofs.run_scene.run_on.Goals as goal

pub returns-in-Ok-clause-bytes : goal.returns-in-Ok-clause-bytes
returns-in-Ok-clause-bytes g c =
    written_done g.T.Tag.ops c.args.scene.now c.in-Ok.report _ _ c.write_report.result (search rules) (search rules) (search rules)

pub returns-clause-bytes : goal.returns-clause-bytes
returns-clause-bytes g c =
    written_fault g.T.Tag.ops c.args.scene.now c.in-Err.fault _ _ c.write_fault_report.result (search rules) (search rules) (search rules)
