use Rattle.std.proofs.Common.{Some, not, filter, ap, ◌∙◌}
use Rattle.dmc_tag.specs.Cancel.{has_token, charges_of}
use Rattle.dmc_client.proofs.TakenBack.{others_stay}
use Rattle.dmc_client.proofs.cancelling.cancel_all.Goals as goal

pub returns-clause-items : goal.returns-clause-items
returns-clause-items g c =
    let ops = g.T.Tag.ops in
    c.remove.ensures
    ∙ ap (filter (λ r. not (has_token c.args.token r))) c.pass_all.ensures.items
    ∙ others_stay ops c.args.token (charges_of ops c.args.counting (Some c.args.spacings.now)) c.args.befores.now c.args.queue.now.items
