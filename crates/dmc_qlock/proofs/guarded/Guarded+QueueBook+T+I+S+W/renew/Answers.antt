use Rattle.dmc_qlock.proofs.LaterLemmas.{later_renewed}
use Rattle.dmc_qlock.proofs.guarded.Guarded+QueueBook+T+I+S+W.renew.Goals as goal

pub invariant_of-self : goal.invariant_of-self
invariant_of-self g c =
    g.met.W.Witness.stays c.self.inside.witness c.self.inside.book c.renew.new.self
    (later_renewed c.self.inside.book c.renew.new.self c.args.pass.now.place c.renew.result c.renew.ensures.book c.renew.ensures.kept) c.self.invariant
