use Rattle.std.proofs.Common.{subst, sym}
use Rattle.dmc_check.specs.Verdicts.{RepresentsEvents}
use Rattle.dmc_check.proofs.replayer.Replayer.add.Goals as goal

pub invariant_of-self : goal.invariant_of-self
invariant_of-self g c = c.in_err-add.ensures.kept c.self.inside.config c.self.inside.events.items c.self.invariant

pub invariant_of-self-2 : goal.invariant_of-self-2
invariant_of-self-2 g c =
    subst (λ es. RepresentsEvents g.T.Tag.ops c.self.inside.config es c.add.new.self) (sym c.with-self-inside.ensures)
    (c.in_ok-add.ensures.added c.self.inside.config c.self.inside.events.items c.self.invariant)
