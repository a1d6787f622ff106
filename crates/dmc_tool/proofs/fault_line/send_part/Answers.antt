-- All bytes are sent, or the writer fails.
use Rattle.dmc_tool.proofs.FaultLineLemmas.{sent_by}
use Rattle.dmc_tool.proofs.fault_line.send_part.Goals as goal

pub returns : goal.returns
returns g c =
    let all = c.send_all.ensures in
    rw c.is_ok.ensures.value (sent_by g.W.Write.contents c.args.bytes.now c.args.writer.now c.send_all.new.writer c.send_all.result all.ok all.err all.note)
