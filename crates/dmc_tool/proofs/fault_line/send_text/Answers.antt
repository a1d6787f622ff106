-- The head, and then what follows it.
use Rattle.std.proofs.Common.{[], ◌∷◌, ◌++◌}
use Rattle.dmc_tool.specs.FaultLine.{number_text}
use Rattle.dmc_tool.proofs.FaultLineLemmas.{sent_both, sent_cut}
use Rattle.dmc_tool.proofs.fault_line.send_text.Goals as goal

pub returns-then-not-send_part : goal.returns-then-not-send_part
returns-then-not-send_part g c =
    let text = c.args.text.now in
    sent_cut g.W.Write.contents text.head.now (number_text text.number ++ (text.tail.now ++ 10 ∷ [])) c.args.writer.now c.send_part.new.writer
    (rw (c.as_bytes.ensures.value, c.if-not-send_part.true) at c.send_part.ensures)

pub returns : goal.returns
returns g c =
    let text = c.args.text.now in
    sent_both g.W.Write.contents text.head.now (number_text text.number ++ (text.tail.now ++ 10 ∷ [])) c.args.writer.now c.send_part.new.writer c.send_behind.new.writer c.send_behind.result
    (rw (c.as_bytes.ensures.value, c.if-not-send_part.false) at c.send_part.ensures) c.send_behind.ensures
