use Rattle.dmc_tag.specs.Rules.{less_reservation}
use Rattle.dmc_client.proofs.Behind.{some_first, none_changed, each_changed}
use Rattle.dmc_client.proofs.stored.StoredRequests.subtract_reservations.Goals as goal

pub invariant_of-self : goal.invariant_of-self
invariant_of-self g c = some_first _ _

pub returns-in-Some : goal.returns-in-Some
returns-in-Some g c =
    each_changed (less_reservation g.T.Tag.ops c.args.amount) c.self.inside.first c.in-Some.first _ c.self.inside.later.items _ _ c.self.view_is c.in-Some.is
    c.less_reservation.ensures c.subtract_reservations.ensures

pub returns-in_default : goal.returns-in_default
returns-in_default g c = none_changed (less_reservation g.T.Tag.ops c.args.amount) c.self.inside.first c.self.inside.later.items _ c.self.invariant c.self.view_is c.in_default.is
