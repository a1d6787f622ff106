use Rattle.dmc_qlock.proofs.LaterLemmas.{released_if}
use Rattle.dmc_qlock.proofs.guarded.Guarded+QueueBook+T+I+S+W.rotate.Goals as goal

pub invariant_of-self : goal.invariant_of-self
invariant_of-self g c =
    g.met.W.ReleaseWitness.stays_released c.self.inside.witness c.self.inside.book c.rotate.new.self
    (released_if c.self.inside.book c.rotate.new.self c.rotate.result c.rotate.ensures.rotated c.rotate.ensures.within (λ some. (c.rotate.ensures.some.0 some).goes_on) c.rotate.ensures.kept) c.self.invariant
