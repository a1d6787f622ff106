-- What is written is a first part.
use Rattle.std.proofs.Common.{◌∙◌, take, length-drop, arith}
use Rattle.std.proofs.KnownBytes.{Appends-kept}
use Rattle.dmc_lemmas.proofs.Options.{of_err}
use Rattle.dmc_text.proofs.ReadingLemmas.{appends_next, appends_some}
use Rattle.dmc_text.proofs.send.send_all.Goals as goal

pub returns-in_err-at-clause-err : goal.returns-in_err-at-clause-err
returns-in_err-at-clause-err g c =
    let of = g.W.Write.contents in
    let kept = Appends-kept (of c.args.writer.now.stream) (of c.loop-at.writer.stream) (of c.write.new.self.stream) (take c.loop-at.at c.args.bytes.now) c.loop-at.invariant.written c.in_err-at.ensures.bytes in
    of_err c.from_residual.result (appends_some (of c.args.writer.now.stream) (of c.write.new.self.stream) c.args.bytes.now c.loop-at.at kept)

pub loop-at-preserved : goal.loop-at-preserved
loop-at-preserved g c =
    let of = g.W.Write.contents in
    record {
      bound = omega (arith, c.in_ok-at.ensures.bound, c.loop-at.invariant.bound, length-drop c.loop-at.at c.args.bytes.now);
      written = appends_next (of c.args.writer.now.stream) (of c.loop-at.writer.stream) (of c.write.new.self.stream) c.args.bytes.now c.loop-at.at c.in_ok-at.field-0 c.loop-at.invariant.written c.in_ok-at.ensures.bytes;
      calm = c.in_ok-at.ensures.note ∙ c.loop-at.invariant.calm;
    }
