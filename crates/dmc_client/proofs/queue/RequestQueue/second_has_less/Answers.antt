use Rattle.std.proofs.Common.{true, ap, ◌∙◌}
use Rattle.std.specs.Option.{option_map_or}
use Rattle.dmc_client.specs.internal.Deferred.{reservation_has_less}
use Rattle.dmc_client.proofs.Deferred.{read_less}
use Rattle.dmc_client.proofs.queue.RequestQueue.second_has_less.Goals as goal

pub returns-in-None : goal.returns-in-None
returns-in-None g c =
    ap (λ o. option_map_or (reservation_has_less g.T.Tag.ops c.args.amount) o true) (read_less g.T.Tag.ops c.self.inside.deferred c.self.inside.stored _ 1 _ c.self.view_is c.in-None.ensures)

pub returns-in-Some : goal.returns-in-Some
returns-in-Some g c =
    c.reservation_has_less.ensures
    ∙ ap (reservation_has_less g.T.Tag.ops c.args.amount) c.less_deferred.ensures
    ∙ ap (λ o. option_map_or (reservation_has_less g.T.Tag.ops c.args.amount) o true) (read_less g.T.Tag.ops c.self.inside.deferred c.self.inside.stored _ 1 _ c.self.view_is c.in-Some.ensures)
