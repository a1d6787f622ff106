use Rattle.std.proofs.Common.{◌≡◌, None, Some, rules, sym, ◌∙◌}
use Rattle.dmc_client.proofs.Deferred.{stored_request, stored_without}
use Rattle.dmc_client.proofs.queue.with_deferred.Goals as goal

pub returns-in_default : goal.returns-in_default
returns-in_default g c =
    let none : c.args.request.tags.r ≡ None = search rules in
    stored_without g.T.Tag.ops c.args.deferred c.args.request none

pub returns : goal.returns
returns g c =
    let tag : c.args.request.tags.r ≡ Some c.in-Some.r = search rules in
    stored_request g.T.Tag.ops c.args.deferred (Some c.in_ok-tag_with_deferred.field-0) c.args.request (c.in_ok-tag_with_deferred.ensures.0 ∙ sym tag, c.in_ok-tag_with_deferred.ensures.1)
