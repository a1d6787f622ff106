use Rattle.std.proofs.Common.{length, ap, ◌∙◌}
use Rattle.dmc_client.proofs.Records.{with_requests, empty_record}
use Rattle.dmc_client.proofs.record.ClientRec.drain.Goals as goal

pub invariant_of-self : goal.invariant_of-self
invariant_of-self g c = empty_record g.T.Tag.ops _ c.self.invariant.spacings c.self.invariant.slack c.clear.ensures

pub returns-clause-count : goal.returns-clause-count
returns-clause-count g c = c.len-count.ensures ∙ ap (λ rec. length rec.requests) c.self.view_is

pub returns-clause-rest : goal.returns-clause-rest
returns-clause-rest g c = with_requests _ _ _ _ c.self.view_is c.clear.ensures

pub returns-clause-kept : goal.returns-clause-kept
returns-clause-kept g c = invariant_of-self g c
