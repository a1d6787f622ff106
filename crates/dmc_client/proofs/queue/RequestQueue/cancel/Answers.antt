use Rattle.std.proofs.Common.{Some, ap, ◌∙◌}
use Rattle.dmc_tag.specs.Cancel.{charges_of, staying, no_befores}
use Rattle.dmc_client.proofs.Deferred.{none_deferred}
use Rattle.dmc_client.proofs.queue.RequestQueue.cancel.Goals as goal

pub returns-clause-rest : goal.returns-clause-rest
returns-clause-rest g c =
    let ops = g.T.Tag.ops in
    none_deferred ops c.cancel.new.self ∙ c.cancel.ensures.rest
    ∙ ap (staying ops c.args.token (charges_of ops c.args.counting (Some c.args.spacings.now)) no_befores) (c.settle.ensures ∙ c.self.view_is)
