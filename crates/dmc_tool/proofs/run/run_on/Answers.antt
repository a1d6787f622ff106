-- What is remarked by the end of the run.
use Rattle.std.proofs.Common.{Ok, string_bytes}
use Rattle.dmc_text.specs.Watching.{stream_of}
use Rattle.dmc_tool.specs.declared.outcome.Outcome.TheVariants.{Done}
use Rattle.dmc_tool.proofs.RemarkLemmas.{fault_remarked, scene_remarked}
use Rattle.dmc_tool.proofs.run.run_on.Goals as goal

pub returns-in_err-scene-clause-remarks : goal.returns-in_err-scene-clause-remarks
returns-in_err-scene-clause-remarks g c =
    fault_remarked (g.R.Read.remaining (stream_of c.args.reader.now)) (g.R.Read.remaining (stream_of c.scene_of.new.reader)) (string_bytes c.args.remarks.now) (string_bytes c.scene_of.new.remarks) _ c.args.is_explained
    c.in_err-scene.field-0.0 c.from_residual.result c.in_err-scene.ensures.remarks c.from_residual.ensures.1

pub returns-in_err-run_scene-clause-remarks : goal.returns-in_err-run_scene-clause-remarks
returns-in_err-run_scene-clause-remarks g c =
    scene_remarked (g.R.Read.remaining (stream_of c.args.reader.now)) (g.R.Read.remaining (stream_of c.scene_of.new.reader)) (string_bytes c.args.remarks.now) (string_bytes c.scene_of.new.remarks) c.args.is_explained
    c.in_ok-scene.scene c.from_residual-in_err-run_scene.result c.in_ok-scene.ensures.remarks

pub returns-clause-remarks : goal.returns-clause-remarks
returns-clause-remarks g c =
    scene_remarked (g.R.Read.remaining (stream_of c.args.reader.now)) (g.R.Read.remaining (stream_of c.scene_of.new.reader)) (string_bytes c.args.remarks.now) (string_bytes c.scene_of.new.remarks) c.args.is_explained
    c.in_ok-scene.scene (Ok Done) c.in_ok-scene.ensures.remarks
