-- The lines of the fault, and then the remarks.
use Rattle.std.proofs.Common.{◌++◌}
use Rattle.dmc_text.specs.Texts.{with_line_end}
use Rattle.dmc_tool.specs.Explanations.{explanation}
use Rattle.dmc_tool.specs.FaultLine.{fault_text}
use Rattle.dmc_tool.proofs.RemarkLemmas.{written_behind, written_cut}
use Rattle.dmc_tool.proofs.explain.write_explained.Goals as goal

pub returns-then-not-send_lines-clause-text : goal.returns-then-not-send_lines-clause-text
returns-then-not-send_lines-clause-text g c =
    let lines = with_line_end (fault_text c.args.fault) ++ explanation c.args.fault in
    written_cut g.W.Write.contents lines c.args.remarks.now c.args.fault_writer.now c.send_lines.new.writer
    (rw (c.text.ensures, c.explanation.ensures, c.if-not-send_lines.true) at c.send_lines.ensures)

pub returns-clause-text : goal.returns-clause-text
returns-clause-text g c =
    let lines = with_line_end (fault_text c.args.fault) ++ explanation c.args.fault in
    written_behind g.W.Write.contents lines c.args.remarks.now c.args.fault_writer.now c.send_lines.new.writer c.write_remarks.new.fault_writer
    (rw (c.text.ensures, c.explanation.ensures, c.if-not-send_lines.false) at c.send_lines.ensures) c.write_remarks.ensures
