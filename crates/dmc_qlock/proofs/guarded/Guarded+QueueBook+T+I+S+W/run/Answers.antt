use Rattle.dmc_qlock.proofs.Answering.{ok_answered, strays_if_pulled}
use Rattle.dmc_qlock.proofs.LaterLemmas.{later_run}
use Rattle.dmc_qlock.proofs.guarded.Guarded+QueueBook+T+I+S+W.run.Goals as goal

pub invariant_of-self : goal.invariant_of-self
invariant_of-self g c =
    g.met.W.Witness.stays c.self.inside.witness c.self.inside.book c.run.new.self
    (later_run g.T.Tag.ops _ _ _ _ c.args.command c.run.result c.run.ensures.ran c.run.ensures.kept) c.self.invariant

pub returns-clause-answered : goal.returns-clause-answered
returns-clause-answered g c = ok_answered g.T.Tag.ops _ _ _ _ _ (λ reply. reply) c.run.result c.run.ensures.ran

pub returns-clause-behind : goal.returns-clause-behind
returns-clause-behind g c is = strays_if_pulled _ c.args.command _ (c.run.ensures.behind is).2
