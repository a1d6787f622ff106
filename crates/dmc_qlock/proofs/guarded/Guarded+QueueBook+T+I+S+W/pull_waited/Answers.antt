use Rattle.dmc_tag.proofs.ForCallers.{tag_order}
use Rattle.dmc_qlock.proofs.Answering.{nothing_if_closed, pull_answered}
use Rattle.dmc_qlock.proofs.LaterLemmas.{later_pulled}
use Rattle.dmc_qlock.proofs.guarded.Guarded+QueueBook+T+I+S+W.pull_waited.Goals as goal

pub invariant_of-self : goal.invariant_of-self
invariant_of-self g c =
    g.met.W.Witness.stays c.self.inside.witness c.self.inside.book c.pull.new.self
    (later_pulled g.T.Tag.ops _ _ _ _ c.args.at c.pull.result c.pull.ensures.pulled) c.self.invariant

pub returns-clause-pulled : goal.returns-clause-pulled
returns-clause-pulled g c = pull_answered g.T.Tag.ops _ _ _ _ _ c.pull.result c.pull.ensures.pulled

pub returns-clause-nothing : goal.returns-clause-nothing
returns-clause-nothing g c =
    let order = tag_order g.T.Ord.cmp g.T.Tag.ops.compare g.met.T.Ord.total g.met.T.Tag.compares in
    let ready = rw (← c.self.view_is) at c.requires in
    rw (← c.self.view_is) (nothing_if_closed g.T.Tag.ops g.T.Tag.fraction g.T.Tag.is_value g.met.T.Tag.exact order c.self.inside.book c.pull.new.self _ _ c.args.at c.pull.result ready c.pull.ensures.pulled)
