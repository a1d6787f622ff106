use Rattle.std.proofs.Common.{◌∙◌, subst, string_bytes}
use Rattle.std.specs.Io.KnownBytes.{Appends}
use Rattle.dmc_text.specs.Texts.{AppendsSome}
use Rattle.dmc_text.specs.Watching.{stream_of}
use Rattle.dmc_tool.proofs.SimLemmas.{reported, unreported_as}
use Rattle.dmc_tool.proofs.NoteLemmas.{scene_noted, unreported_noted, reported_noted}
use Rattle.dmc_tool.proofs.RemarkLemmas.{fault_remarked, scene_remarked}
use Rattle.dmc_tool.proofs.sim.simulate_on.Goals as goal

pub returns-in_err-report-clause-bytes : goal.returns-in_err-report-clause-bytes
returns-in_err-report-clause-bytes g c =
    unreported_as (g.R.Read.remaining (stream_of c.args.reader.now)) (g.R.Read.remaining (stream_of c.scene_of.new.reader)) (g.W.Write.contents (stream_of c.args.writer.now)) c.in_ok-scene.scene c.in_err-report.field-0.0
    c.from_residual-in_err-report.result c.in_ok-scene.ensures.bytes c.in_err-report.ensures.simulates c.from_residual-in_err-report.ensures.1

pub returns-then-not-send-clause-bytes : goal.returns-then-not-send-clause-bytes
returns-then-not-send-clause-bytes g c =
    let shown = c.in_ok-text.ensures in (
      c.in_ok-scene.scene,
      c.in_ok-report.report,
      c.in_ok-scene.ensures.bytes,
      c.in_ok-report.ensures.simulates,
      c.in_ok-report.ensures.rows,
      subst (AppendsSome (g.W.Write.contents (stream_of c.args.writer.now)) (g.W.Write.contents (stream_of c.send.new.writer))) (c.as_bytes.ensures.value ∙ shown) c.send.ensures.some,
    )

pub returns-clause-bytes : goal.returns-clause-bytes
returns-clause-bytes g c =
    let shown = c.in_ok-text.ensures in
    reported (g.R.Read.remaining (stream_of c.args.reader.now)) (g.R.Read.remaining (stream_of c.scene_of.new.reader)) (g.W.Write.contents (stream_of c.args.writer.now)) (g.W.Write.contents (stream_of c.send.new.writer)) c.in_ok-report.report.turns_out
    c.end_of.result c.end_of.ensures (
      c.in_ok-scene.scene,
      c.in_ok-report.report,
      c.in_ok-scene.ensures.bytes,
      c.in_ok-report.ensures.simulates,
      c.in_ok-report.ensures.rows,
      (
        subst (Appends (g.W.Write.contents (stream_of c.args.writer.now)) (g.W.Write.contents (stream_of c.send.new.writer))) (c.as_bytes.ensures.value ∙ shown) (c.send.ensures.all c.if-not-send.false),
        c.end_of.ensures,
      ),
    )

pub returns-in_err-scene-clause-notes : goal.returns-in_err-scene-clause-notes
returns-in_err-scene-clause-notes g c =
    scene_noted (g.R.Read.remaining (stream_of c.args.reader.now)) (g.R.Read.remaining (stream_of c.scene_of.new.reader)) c.args.reader.now c.scene_of.new.reader c.args.writer.now
    c.in_err-scene.field-0.0 c.from_residual.result c.in_err-scene.ensures.bytes c.in_err-scene.ensures.note c.from_residual.ensures.1

pub returns-in_err-report-clause-notes : goal.returns-in_err-report-clause-notes
returns-in_err-report-clause-notes g c =
    unreported_noted c.args.reader.now c.scene_of.new.reader c.args.writer.now c.in_err-report.field-0.0 c.from_residual-in_err-report.result c.in_ok-scene.ensures.note
    c.from_residual-in_err-report.ensures.1

pub returns-clause-notes : goal.returns-clause-notes
returns-clause-notes g c =
    reported_noted c.args.reader.now c.scene_of.new.reader c.args.writer.now c.send.new.writer c.in_ok-report.report.turns_out c.end_of.result c.end_of.ensures c.in_ok-scene.ensures.note
    (rw c.if-not-send.false at c.send.ensures.note)

pub returns-in_err-scene-clause-remarks : goal.returns-in_err-scene-clause-remarks
returns-in_err-scene-clause-remarks g c =
    fault_remarked (g.R.Read.remaining (stream_of c.args.reader.now)) (g.R.Read.remaining (stream_of c.scene_of.new.reader)) (string_bytes c.args.remarks.now) (string_bytes c.scene_of.new.remarks) _ c.args.is_explained
    c.in_err-scene.field-0.0 c.from_residual.result c.in_err-scene.ensures.remarks c.from_residual.ensures.1

pub returns-in_err-report-clause-remarks : goal.returns-in_err-report-clause-remarks
returns-in_err-report-clause-remarks g c =
    scene_remarked (g.R.Read.remaining (stream_of c.args.reader.now)) (g.R.Read.remaining (stream_of c.scene_of.new.reader)) (string_bytes c.args.remarks.now) (string_bytes c.scene_of.new.remarks) c.args.is_explained
    c.in_ok-scene.scene c.from_residual-in_err-report.result c.in_ok-scene.ensures.remarks

pub returns-in_err-text-clause-remarks : goal.returns-in_err-text-clause-remarks
returns-in_err-text-clause-remarks g c =
    scene_remarked (g.R.Read.remaining (stream_of c.args.reader.now)) (g.R.Read.remaining (stream_of c.scene_of.new.reader)) (string_bytes c.args.remarks.now) (string_bytes c.scene_of.new.remarks) c.args.is_explained
    c.in_ok-scene.scene c.from_residual-in_err-text.result c.in_ok-scene.ensures.remarks

pub returns-then-not-send-clause-remarks : goal.returns-then-not-send-clause-remarks
returns-then-not-send-clause-remarks g c =
    scene_remarked (g.R.Read.remaining (stream_of c.args.reader.now)) (g.R.Read.remaining (stream_of c.scene_of.new.reader)) (string_bytes c.args.remarks.now) (string_bytes c.scene_of.new.remarks) c.args.is_explained
    c.in_ok-scene.scene _ c.in_ok-scene.ensures.remarks

pub returns-clause-remarks : goal.returns-clause-remarks
returns-clause-remarks g c =
    scene_remarked (g.R.Read.remaining (stream_of c.args.reader.now)) (g.R.Read.remaining (stream_of c.scene_of.new.reader)) (string_bytes c.args.remarks.now) (string_bytes c.scene_of.new.remarks) c.args.is_explained
    c.in_ok-scene.scene c.end_of.result c.in_ok-scene.ensures.remarks
