-- The number, and then the tail.
use Rattle.std.proofs.Common.{[], ◌∷◌, ◌++◌}
use Rattle.dmc_tool.specs.FaultLine.{number_text}
use Rattle.dmc_tool.proofs.FaultLineLemmas.{sent_both, sent_cut}
use Rattle.dmc_tool.proofs.fault_line.send_behind.Goals as goal

pub returns-then-not-send_number : goal.returns-then-not-send_number
returns-then-not-send_number g c =
    sent_cut g.W.Write.contents (number_text c.args.number) (c.args.tail.now ++ 10 ∷ []) c.args.writer.now c.send_number.new.writer (rw c.if-not-send_number.true at c.send_number.ensures)

pub returns : goal.returns
returns g c =
    sent_both g.W.Write.contents (number_text c.args.number) (c.args.tail.now ++ 10 ∷ []) c.args.writer.now c.send_number.new.writer c.send_last.new.writer c.send_last.result
    (rw c.if-not-send_number.false at c.send_number.ensures) (rw c.as_bytes.ensures.value at c.send_last.ensures)
