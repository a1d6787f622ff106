use Rattle.std.proofs.Common.{refl}
use Rattle.dmc_tlock.proofs.DeskLemmas.{found}
use Rattle.dmc_tlock.proofs.desk.find_desk.Goals as goal

pub returns-clause-its : goal.returns-clause-its
returns-clause-its g c =
    let at = found c.args.desks.now c.args.server c.args.server.0 c.in-Some.desk.now refl c.in-Some.ensures.lookup.3.0 c.in-Some.ensures.lookup.1 in
    rw at.seen (c.if-not-are_of.ensures.0 refl)

pub returns-clause-stranger : goal.returns-clause-stranger
returns-clause-stranger g c = (λ is. absurd (cc), λ other. absurd (other.1 (returns-clause-its g c)))

pub returns-then-not-are_of-clause-stranger : goal.returns-then-not-are_of-clause-stranger
returns-then-not-are_of-clause-stranger g c =
    let at = found c.args.desks.now c.args.server c.args.server.0 c.in-Some.desk.now refl c.in-Some.ensures.lookup.3.0 c.in-Some.ensures.lookup.1 in
    (λ _. (c.in-Some.ensures.lookup.3.0, λ its. let seen = c.if-not-are_of.ensures.1 (rw at.seen at its) in cc), λ _. refl)
