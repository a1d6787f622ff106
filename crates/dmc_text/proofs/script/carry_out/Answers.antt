-- The rest continues from the queue.
use Rattle.std.proofs.Common.{◌++◌, Some, ap}
use Rattle.std.proofs.lemmas.Result.{on_ok_weaker}
use Rattle.dmc_tag.specs.Step.{step}
use Rattle.dmc_text.specs.Replies.{reply_text, tag_text}
use Rattle.dmc_text.specs.Texts.{with_line_end, written}
use Rattle.dmc_text.proofs.script.carry_out.Goals as goal

pub returns-in-Config-clause-rest : goal.returns-in-Config-clause-rest
returns-in-Config-clause-rest g c =
    let text = tag_text g.T.TagText.numerator g.T.TagText.denominator in
    rw c.in-Config.is (λ rest. ap (λ s. written g.T.Tag.ops text (Some s) rest) c.make.ensures)

pub returns-in-Some-clause-rest : goal.returns-in-Some-clause-rest
returns-in-Some-clause-rest g c =
    let text = tag_text g.T.TagText.numerator g.T.TagText.denominator in
    let reply = (step g.T.Tag.ops (g.M.Queue.Scheduler.state c.in-Some.queue) c.in-Ask.command).1 in
    rw (c.in-Ask.is, c.in-Some.is) (on_ok_weaker c.ask.result (λ now rest. ap (λ s. with_line_end (reply_text text reply) ++ written g.T.Tag.ops text (Some s) rest) now) c.ask.ensures.state)
