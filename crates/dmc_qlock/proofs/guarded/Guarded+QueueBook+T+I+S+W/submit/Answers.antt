use Rattle.dmc_tag.specs.declared.reply.Reply.TheVariants.{Tagged}
use Rattle.dmc_qlock.proofs.Answering.{ok_answered, refused_answered}
use Rattle.dmc_qlock.proofs.LaterLemmas.{later_submitted}
use Rattle.dmc_qlock.proofs.guarded.Guarded+QueueBook+T+I+S+W.submit.Goals as goal

pub invariant_of-self : goal.invariant_of-self
invariant_of-self g c =
    g.met.W.Witness.stays c.self.inside.witness c.self.inside.book c.submit.new.self
    (later_submitted g.T.Tag.ops _ _ _ _ _ Tagged c.submit.result c.submit.ensures.accepted c.submit.ensures.refused) c.self.invariant

pub returns-clause-accepted : goal.returns-clause-accepted
returns-clause-accepted g c = ok_answered g.T.Tag.ops _ _ _ _ _ Tagged c.submit.result c.submit.ensures.accepted

pub returns-clause-refused : goal.returns-clause-refused
returns-clause-refused g c = refused_answered g.T.Tag.ops _ _ _ _ _ c.submit.result c.submit.ensures.refused
