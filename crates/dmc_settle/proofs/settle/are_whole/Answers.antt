use Rattle.std.proofs.Common.{sym, ◌∙◌}
use Rattle.std.proofs.lemmas.Bool.{false≢true}
use Rattle.dmc_settle.specs.Left.{AreTogether, Left, left_of, stops_of}
use Rattle.dmc_settle.specs.Reports.{AreRows}
use Rattle.dmc_settle.proofs.settle.are_whole.Goals as goal

pub returns-then-are_together-clause-whole : goal.returns-then-are_together-clause-whole
returns-then-are_together-clause-whole g c =
    let r : Left g.row.T.Denot = left_of c.args.books.now c.args.trackers.now c.args.passes.now (stops_of c.args.report.now) in
    let together : AreTogether c.args.scene.now r = c.are_together.ensures.0 c.if-are_together.true in
    ((λ e. (together, c.are_rows.ensures.rows.0 e)), (λ both. c.are_rows.ensures.rows.1 both.1))

pub returns-else-are_together-clause-whole : goal.returns-else-are_together-clause-whole
returns-else-are_together-clause-whole g c =
    let r : Left g.row.T.Denot = left_of c.args.books.now c.args.trackers.now c.args.passes.now (stops_of c.args.report.now) in (
      (λ e. cc),
      (λ (both : AreTogether c.args.scene.now r × AreRows c.args.scene.now c.args.report.now). absurd (false≢true (sym c.if-are_together.false ∙ c.are_together.ensures.1
          both.0))),
    )

pub returns-then-are_together-clause-servers : goal.returns-then-are_together-clause-servers
returns-then-are_together-clause-servers g c = c.are_rows.ensures.servers

pub returns-then-are_together-clause-clients : goal.returns-then-are_together-clause-clients
returns-then-are_together-clause-clients g c = c.are_rows.ensures.clients

pub returns-else-are_together-clause-servers : goal.returns-else-are_together-clause-servers
returns-else-are_together-clause-servers g c = λ e. cc

pub returns-else-are_together-clause-clients : goal.returns-else-are_together-clause-clients
returns-else-are_together-clause-clients g c = λ e. cc
