-- The first line, and then the other.
use Rattle.dmc_tool.specs.Explanations.{line_if_any}
use Rattle.dmc_tool.specs.FaultLine.{line_of}
use Rattle.dmc_tool.proofs.FaultLineLemmas.{sent_both, sent_cut}
use Rattle.dmc_tool.proofs.explain.send_lines.Goals as goal

pub returns-then-not-send_text : goal.returns-then-not-send_text
returns-then-not-send_text g c =
    sent_cut g.W.Write.contents (line_of c.args.first.now) (line_if_any c.args.second) c.args.writer.now c.send_text.new.writer (rw c.if-not-send_text.true at c.send_text.ensures)

pub returns : goal.returns
returns g c =
    sent_both g.W.Write.contents (line_of c.args.first.now) (line_if_any c.args.second) c.args.writer.now c.send_text.new.writer c.send_if_any.new.writer c.send_if_any.result
    (rw c.if-not-send_text.false at c.send_text.ensures) c.send_if_any.ensures
