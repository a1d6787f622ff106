use Rattle.std.proofs.Common.{drop, ap, ◌∙◌}
use Rattle.std.specs.List.{list_all}
use Rattle.dmc_client.specs.internal.Deferred.{less_deferred, reservation_has_less}
use Rattle.dmc_client.proofs.Deferred.{others_tested}
use Rattle.dmc_client.proofs.queue.RequestQueue.others_have_less.Goals as goal

pub returns : goal.returns
returns g c =
    c.others_have_less.ensures
    ∙ ap (list_all (λ r. reservation_has_less g.T.Tag.ops c.args.amount (less_deferred g.T.Tag.ops c.self.inside.deferred r))) c.later.ensures
    ∙ others_tested g.T.Tag.ops c.args.amount c.self.inside.deferred c.self.inside.stored
    ∙ ap (λ xs. list_all (reservation_has_less g.T.Tag.ops c.args.amount) (drop 1 xs)) c.self.view_is
