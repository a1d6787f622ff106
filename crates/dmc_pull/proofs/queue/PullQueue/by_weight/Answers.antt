use Rattle.std.proofs.Common.{sym, subst, Some, None}
use Rattle.dmc_pull.specs.internal.Queue.{IsMarked}
use Rattle.dmc_pull.specs.internal.Choice.{ByWeight}
use Rattle.dmc_pull.proofs.Pull.Picks.{tag_order, no_head_shares, least_shares}
use Rattle.dmc_pull.proofs.queue.PullQueue.by_weight.Goals as goal

pub returns-in-None : goal.returns-in-None
returns-in-None g c =
    let order = tag_order g.T.Ord.cmp g.T.Tag.ops.compare g.met.T.Ord.total g.met.T.Tag.compares in
    subst (λ v. ByWeight g.T.Tag.ops v.last_moment v.roster.entries None) c.self.view_is (no_head_shares order c.self.invariant.0 c.in-None.ensures)

pub returns-in-Some : goal.returns-in-Some
returns-in-Some g c =
    let order = tag_order g.T.Ord.cmp g.T.Tag.ops.compare g.met.T.Ord.total g.met.T.Tag.compares in
    let marked = subst (IsMarked g.T.Tag.ops) (sym c.self.view_is) c.requires in
    subst (λ v. ByWeight g.T.Tag.ops v.last_moment v.roster.entries (Some (c.in-Some.key, c.in-Some.rank.client, c.in-Some.rank.ready))) c.self.view_is
    (least_shares order c.self.invariant.0 marked c.in-Some.key c.in-Some.rank c.in-Some.ensures)
