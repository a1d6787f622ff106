-- Answered here, so that a wrong body fails here.
use Rattle.std.proofs.Common.{rules}
use Rattle.dmc_client.proofs.Order.{tag_order}
use Rattle.dmc_client.proofs.Records.{empty_record, nothing_not_below}
use Rattle.dmc_client.proofs.record.ClientRec.new.Goals as goal

pub invariant_of-result : goal.invariant_of-result
invariant_of-result g c =
    let order = tag_order g.T.Ord.cmp g.T.Tag.ops.compare g.met.T.Ord.total g.met.T.Tag.compares in
    empty_record g.T.Tag.ops _ c.requires (rw c.no_previous.ensures (nothing_not_below g.T.Tag.ops order)) c.new.ensures

pub returns-clause-value : goal.returns-clause-value
returns-clause-value g c = search rules

pub returns-clause-kept : goal.returns-clause-kept
returns-clause-kept g c = invariant_of-result g c
