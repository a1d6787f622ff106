-- The digits, or nothing.
use Rattle.dmc_tool.proofs.FaultLineLemmas.{sent_none}
use Rattle.dmc_tool.proofs.fault_line.send_number.Goals as goal

pub returns-in-None : goal.returns-in-None
returns-in-None g c = rw c.in-None.is (sent_none g.W.Write.contents c.args.writer.now)

pub returns-in-Some : goal.returns-in-Some
returns-in-Some g c = rw c.in-Some.is (rw (c.as_bytes.ensures.value, c.format.ensures.text) at c.send_part.ensures)
