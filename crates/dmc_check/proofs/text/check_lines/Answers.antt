-- The walk over the lines fails, or the verdict is written.
use Rattle.dmc_lemmas.proofs.Options.{err_is}
use Rattle.dmc_text.specs.Watching.{stream_of}
use Rattle.dmc_check.proofs.TextEnds.{ends_early, text_has_config, checks_as}
use Rattle.dmc_check.proofs.NoteLemmas.{notes_early, verdict_noted}
use Rattle.dmc_check.proofs.text.check_lines.Goals as goal

pub returns-in_err-run-clause-bytes : goal.returns-in_err-run-clause-bytes
returns-in_err-run-clause-bytes g c =
    let r = g.R.Read.remaining in
    let w = g.W.Write.contents in
    rw (err_is _ _ c.from_residual.ensures.1) (ends_early g.T.Tag.ops g.T.TagText.made c.args.checking.now c.requires (r (stream_of c.args.reader.now)) (w (stream_of c.args.writer.now)) (r (stream_of c.run.new.reader)) (w (stream_of c.run.new.writer)) c.run.new.taker c.run.new.self
    c.in_err-run.field-0.0 c.in_err-run.ensures.bytes)

pub returns-in_err-run-clause-notes : goal.returns-in_err-run-clause-notes
returns-in_err-run-clause-notes g c =
    rw (err_is _ _ c.from_residual.ensures.1) (notes_early g.R.Read.remaining c.args.reader.now c.run.new.reader c.args.writer.now c.run.new.writer c.in_err-run.field-0.0 c.in_err-run.ensures.notes)

pub checked-requires : goal.checked-requires
checked-requires g c = text_has_config g.T.Tag.ops g.T.TagText.made c.args.checking.now c.requires c.in_ok-run.ensures.bytes.1

pub returns-clause-bytes : goal.returns-clause-bytes
returns-clause-bytes g c =
    let r = g.R.Read.remaining in
    let w = g.W.Write.contents in
    checks_as g.T.Tag.ops g.T.TagText.made c.args.checking.now c.requires (r (stream_of c.args.reader.now)) (w (stream_of c.args.writer.now)) (r (stream_of c.run.new.reader)) (w (stream_of c.run.new.writer)) c.run.new.taker c.run.new.self
    (w (stream_of c.write_verdict.new.writer)) c.checked.result c.write_verdict.result c.in_ok-run.ensures.bytes c.checked.ensures c.write_verdict.ensures.bytes

pub returns-clause-notes : goal.returns-clause-notes
returns-clause-notes g c =
    verdict_noted g.R.Read.remaining (g.W.Write.contents (stream_of c.run.new.writer)) (g.W.Write.contents (stream_of c.write_verdict.new.writer))
    c.args.reader.now c.run.new.reader c.args.writer.now c.run.new.writer c.write_verdict.new.writer c.checked.result c.write_verdict.result
    c.in_ok-run.ensures.notes.0 c.in_ok-run.ensures.notes.1 c.write_verdict.ensures.bytes c.write_verdict.ensures.note
