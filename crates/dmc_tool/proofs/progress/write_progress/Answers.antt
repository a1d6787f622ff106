-- One line more, all of it or up to where the writer fails.
use Rattle.dmc_tool.proofs.ProgressLemmas.{shown_next, shown_part}
use Rattle.dmc_tool.proofs.progress.write_progress.Goals as goal

pub returns-then-not-write_count : goal.returns-then-not-write_count
returns-then-not-write_count g c =
    shown_part g.E.Write.contents c.args.command c.args.writer.now c.loop.writer c.write_count.new.writer c.count.result c.loop.invariant (rw c.if-not-write_count.true at c.write_count.ensures)

pub loop-preserved : goal.loop-preserved
loop-preserved g c =
    shown_next g.E.Write.contents c.args.command c.args.writer.now c.loop.writer c.write_count.new.writer c.count.result c.loop.invariant (rw c.if-not-write_count.false at c.write_count.ensures)
