use Rattle.std.proofs.Common.{ap, ◌∙◌}
use Rattle.std.specs.List.{list_all}
use Rattle.dmc_tag.specs.Rules.{has_less}
use Rattle.dmc_client.proofs.Deferred.{shares_tested}
use Rattle.dmc_client.proofs.queue.RequestQueue.has_less_shares.Goals as goal

pub returns : goal.returns
returns g c =
    c.shares_have_less.ensures
    ∙ shares_tested g.T.Tag.ops c.args.amount c.self.inside.deferred c.self.inside.stored
    ∙ ap (list_all (λ r. has_less g.T.Tag.ops c.args.amount r.tags.p)) c.self.view_is
