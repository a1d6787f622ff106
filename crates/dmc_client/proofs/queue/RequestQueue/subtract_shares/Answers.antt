use Rattle.std.proofs.Common.{map, ap, ◌∙◌}
use Rattle.std.specs.Prelude.{if◌then◌else◌}
use Rattle.std.specs.List.{list_all}
use Rattle.dmc_tag.specs.Rules.{has_less, less_share}
use Rattle.dmc_client.specs.internal.Deferred.{all_less_deferred}
use Rattle.dmc_client.proofs.Deferred.{tested_are_deferred, tested_apart, shares_tested}
use Rattle.dmc_client.proofs.queue.RequestQueue.subtract_shares.Goals as goal

pub invariant_of-self : goal.invariant_of-self
invariant_of-self g c = rw c.subtract_shares.ensures.new (tested_are_deferred g.T.Tag.ops c.args.amount _ _ c.subtract_shares.result c.self.invariant)

pub returns-clause-value : goal.returns-clause-value
returns-clause-value g c =
    c.subtract_shares.ensures.value
    ∙ shares_tested g.T.Tag.ops c.args.amount c.self.inside.deferred c.self.inside.stored
    ∙ ap (list_all (λ r. has_less g.T.Tag.ops c.args.amount r.tags.p)) c.self.view_is

pub returns-clause-new : goal.returns-clause-new
returns-clause-new g c =
    let ops = g.T.Tag.ops in
    ap (all_less_deferred ops c.self.inside.deferred) c.subtract_shares.ensures.new
    ∙ tested_apart ops c.args.amount c.self.inside.deferred c.self.inside.stored c.subtract_shares.result
    ∙ ap (λ xs. if c.subtract_shares.result then map (less_share ops c.args.amount) xs else xs) c.self.view_is
