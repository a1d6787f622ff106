-- What the walk left to be written is sent.
use Rattle.std.proofs.Common.{refl, subst}
use Rattle.std.specs.Option.{option_map}
use Rattle.std.specs.Io.KnownBytes.{Appends}
use Rattle.dmc_text.specs.Replies.{tag_text}
use Rattle.dmc_text.specs.Texts.{AppendsSome}
use Rattle.dmc_text.proofs.RunEnds.{runs_as}
use Rattle.dmc_text.proofs.script.run_script.Goals as goal

pub returns-clause-bytes : goal.returns-clause-bytes
returns-clause-bytes g c =
    let r = g.R.Read.remaining in
    let w = g.W.Write.contents in
    let run = c.run-ended in
    let sent = w c.send-is_sent.new.writer.stream in
    rw c.settled.ensures (runs_as g.T.Tag.ops (tag_text g.T.TagText.numerator g.T.TagText.denominator) (λ s. option_map g.M.Queue.Scheduler.state s.queue) _ refl
    (r c.args.reader.now.stream) (w c.args.writer.now.stream) (r run.new.reader.stream) (w run.new.writer.stream) sent run.new.taker run.new.self run.result c.send-is_sent.result run.ensures.bytes
    (λ all. subst (Appends (w run.new.writer.stream) sent) c.unsent.ensures (c.send-is_sent.ensures.all all))
    (subst (AppendsSome (w run.new.writer.stream) sent) c.unsent.ensures c.send-is_sent.ensures.some))
