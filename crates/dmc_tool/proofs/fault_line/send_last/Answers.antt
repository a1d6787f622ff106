-- The bytes, and then the LF.
use Rattle.std.proofs.Common.{[], ◌∷◌}
use Rattle.dmc_tool.proofs.FaultLineLemmas.{sent_both, sent_cut, sent_flushed}
use Rattle.dmc_tool.proofs.fault_line.send_last.Goals as goal

pub returns-then-not-send_part : goal.returns-then-not-send_part
returns-then-not-send_part g c =
    sent_cut g.W.Write.contents c.args.bytes.now (10 ∷ []) c.args.writer.now c.send_part.new.writer (rw c.if-not-send_part.true at c.send_part.ensures)

pub returns : goal.returns
returns g c =
    let sent = c.send.ensures in
    sent_both g.W.Write.contents c.args.bytes.now (10 ∷ []) c.args.writer.now c.send_part.new.writer c.send.new.writer c.send.result (rw c.if-not-send_part.false at c.send_part.ensures)
    (sent_flushed g.W.Write.contents (10 ∷ []) c.send_part.new.writer c.send.new.writer c.send.result sent.all sent.some sent.note)
