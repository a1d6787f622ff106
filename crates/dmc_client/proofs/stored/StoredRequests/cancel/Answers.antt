use Rattle.std.proofs.Common.{Some, ap, ◌∙◌}
use Rattle.dmc_tag.specs.Cancel.{charges_of, befores_next, has_token}
use Rattle.dmc_client.proofs.TakenBack.{first_taken}
use Rattle.dmc_client.proofs.stored.StoredRequests.cancel.Goals as goal

pub returns-clause-rest : goal.returns-clause-rest
returns-clause-rest g c =
    let ops = g.T.Tag.ops in
    let charged = charges_of ops c.args.counting (Some c.args.spacings.now) in
    let r = c.in-Some.first in
    first_taken ops c.args.token charged c.self.inside.first c.pop_front-self-inside.result r c.self.inside.later.items c.cancel_all.new.queue.items
    c.pop_front-self-inside.new.self.items c.args.self.now c.pass.new.befores c.self.view_is c.in-Some.is
    (c.pass.ensures.next ∙ ap (λ b. befores_next ops (has_token c.args.token r) (charged r.cost) b r) c.none-befores.ensures)
    c.if-ne.ensures c.cancel_all.ensures.items c.pop_front-self-inside.ensures.items
