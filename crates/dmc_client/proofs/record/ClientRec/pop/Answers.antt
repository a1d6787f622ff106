use Rattle.dmc_client.proofs.Records.{popped_record}
use Rattle.dmc_client.proofs.record.ClientRec.pop.Goals as goal

pub invariant_of-self : goal.invariant_of-self
invariant_of-self g c = rw c.pop_front.ensures.rest (popped_record g.T.Tag.ops _ c.self.invariant)

pub returns-clause-kept : goal.returns-clause-kept
returns-clause-kept g c = invariant_of-self g c
