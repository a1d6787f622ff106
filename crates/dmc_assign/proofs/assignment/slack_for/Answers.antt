use Rattle.std.proofs.Common.{ap, subst, sym, ◌∙◌}
use Rattle.dmc_tag.specs.Order.{NotBelow}
use Rattle.dmc_tag.specs.Rules.{slack_of}
use Rattle.dmc_tag.proofs.Cancels.{next_slack_not_below}
use Rattle.dmc_tag.proofs.ForCallers.{tag_order}
use Rattle.dmc_assign.proofs.assignment.slack_for.Goals as goal

pub returns-clause-not_below : goal.returns-clause-not_below
returns-clause-not_below g c params e =
    let ops = g.T.Tag.ops in
    let order = tag_order g.T.Ord.cmp ops.compare g.met.T.Ord.total g.met.T.Tag.compares in
    let rec = c.args.rec.now in
    let value = c.slack_of.ensures ∙ ap (λ previous. slack_of ops previous c.args.tags c.args.t c.args.floor) c.previous.ensures.value in
    subst (NotBelow ops) (sym value) (next_slack_not_below ops g.T.Tag.fraction g.T.Tag.is_value g.met.T.Tag.exact order rec.spacings rec.previous params c.args.t c.args.floor c.args.tags c.previous.ensures.kept.slack e)
