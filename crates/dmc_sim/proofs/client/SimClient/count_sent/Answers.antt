-- Answered here, so that a wrong body fails here.
use Rattle.std.proofs.Common.{rules}
use Rattle.dmc_sim.proofs.client.SimClient.count_sent.Goals as goal

pub invariant_of-self : goal.invariant_of-self
invariant_of-self g = search rules

pub returns-clause-sent : goal.returns-clause-sent
returns-clause-sent g = search rules
