-- All of them, or none.
use Rattle.std.proofs.Common.{arith, sym}
use Rattle.std.proofs.lemmas.Bool.{eqb-true, eqb-false}
use Rattle.dmc_tool.specs.FaultLine.{WritesLines}
use Rattle.dmc_tool.proofs.FaultLineLemmas.{sent_flushed}
use Rattle.dmc_tool.proofs.RemarkLemmas.{none_written, some_written}
use Rattle.dmc_tool.proofs.explain.write_remarks.Goals as goal

pub returns-then-is_empty : goal.returns-then-is_empty
returns-then-is_empty g c =
    none_written g.W.Write.contents c.args.remarks.now c.args.fault_writer.now (eqb-true _ _ (sym c.if-is_empty.ensures))

pub returns : goal.returns
returns g c =
    let some = eqb-false _ _ (sym c.if-is_empty.ensures) in
    let sent = c.send.ensures in
    let written : WritesLines g.W.Write.contents c.as_bytes.result.now c.args.fault_writer.now c.send.new.writer =
    (c.send.result, sent_flushed g.W.Write.contents c.as_bytes.result.now c.args.fault_writer.now c.send.new.writer c.send.result sent.all sent.some sent.note) in
    some_written g.W.Write.contents c.args.remarks.now c.args.fault_writer.now c.send.new.writer (omega (arith, some)) (rw c.as_bytes.ensures.value at written)
