use Rattle.std.proofs.Common.{Some, ap, ◌∙◌}
use Rattle.dmc_client.proofs.Deferred.{read_less}
use Rattle.dmc_client.proofs.queue.RequestQueue.front.Goals as goal

pub returns-in-None : goal.returns-in-None
returns-in-None g c = read_less g.T.Tag.ops c.self.inside.deferred c.self.inside.stored _ 0 _ c.self.view_is c.in-None.ensures

pub returns-in-Some : goal.returns-in-Some
returns-in-Some g c = ap Some c.less_deferred.ensures ∙ read_less g.T.Tag.ops c.self.inside.deferred c.self.inside.stored _ 0 _ c.self.view_is c.in-Some.ensures
