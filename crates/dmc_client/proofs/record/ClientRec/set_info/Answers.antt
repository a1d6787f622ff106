use Rattle.std.proofs.Common.{◌≡◌, true, [], sym, subst}
use Rattle.dmc_tag.specs.Rules.{changes_reservation}
use Rattle.dmc_client.proofs.Records.{record_with_info}
use Rattle.dmc_client.proofs.record.ClientRec.set_info.Goals as goal

pub invariant_of-self : goal.invariant_of-self
invariant_of-self g c =
    let none = subst (λ rec. changes_reservation rec.info c.args.info ≡ true → rec.requests ≡ []) (sym c.self.view_is) c.requires.not_busy in
    record_with_info g.T.Tag.ops _ c.args.info c.args.spacings c.self.invariant c.requires.spacings none

pub returns-clause-kept : goal.returns-clause-kept
returns-clause-kept g c = invariant_of-self g c
