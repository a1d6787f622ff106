use Rattle.std.proofs.Common.{◌≡◌, Some, rules, refl, sym, ◌∙◌}
use Rattle.dmc_client.proofs.Deferred.{stored_tag}
use Rattle.dmc_client.proofs.queue.tag_with_deferred.Goals as goal

pub returns-in_ok-plus-in-Some : goal.returns-in_ok-plus-in-Some
returns-in_ok-plus-in-Some g c =
    let deferred : c.args.deferred ≡ Some c.in-Some.amount = search rules in
    stored_tag g.T.Tag.ops g.T.Tag.fraction g.T.Tag.is_value g.met.T.Tag.exact c.args.deferred (Some c.args.r) c.in-Some.amount c.args.r c.in_ok-plus-in-Some.field-0 deferred refl c.plus.ensures.value (sym c.plus.ensures.sum ∙ c.in_ok-plus-in-Some.was)
