use Rattle.std.proofs.Common.{sym, subst, Some, None}
use Rattle.std.specs.Cmp.{IsTotalOrder}
use Rattle.dmc_pull.specs.internal.Choice.{Early}
use Rattle.dmc_pull.proofs.Pull.Picks.{tag_order, no_head_early, least_early, least_late}
use Rattle.dmc_pull.proofs.queue.PullQueue.early.Given.{Over}
use Rattle.dmc_pull.proofs.queue.PullQueue.early.Goals as goal

order : (g : Over) → IsTotalOrder g.T.Tag.ops.compare
order g = tag_order g.T.Ord.cmp g.T.Tag.ops.compare g.met.T.Ord.total g.met.T.Tag.compares

pub returns-in-None : goal.returns-in-None
returns-in-None g c =
    subst (λ v. Early g.T.Tag.ops c.args.at v.roster.entries None) c.self.view_is
    (no_head_early (order g) c.self.invariant.0 c.args.at c.in-None.ensures)

pub returns-then-is_due : goal.returns-then-is_due
returns-then-is_due g c =
    subst (λ v. Early g.T.Tag.ops c.args.at v.roster.entries (Some (c.in-Some.key, c.in-Some.rank.client))) c.self.view_is
    (least_early (order g) c.self.invariant.0 c.args.at c.in-Some.key c.in-Some.rank c.in-Some.ensures (sym c.if-is_due.ensures))

pub returns-else-is_due : goal.returns-else-is_due
returns-else-is_due g c =
    subst (λ v. Early g.T.Tag.ops c.args.at v.roster.entries None) c.self.view_is
    (least_late (order g) c.self.invariant.0 c.args.at c.in-Some.key c.in-Some.rank c.in-Some.ensures (sym c.if-is_due.ensures))
