use Rattle.std.proofs.Common.{◌∙◌, ap, sym, arith}
use Rattle.dmc_tag.specs.Cancel.{befores_next, charges_of, fallen_request, has_token}
use Rattle.dmc_plain.proofs.Cancelled.{pass_more, after_more, pass_end, after_end}
use Rattle.dmc_plain.proofs.cancelling.pass_each.Goals as goal

pub loop-request-preserved : goal.loop-request-preserved
loop-request-preserved g c =
    let ops = g.T.Tag.ops in
    let charged = charges_of ops c.args.counting c.args.spacings in
    let befores = c.loop-request.befores in
    let request = c.request-item.result in
    let now = c.pass.ensures.request ∙ ap (fallen_request ops befores) (sym c.request-item.is) in
    let next = c.pass.ensures.next ∙ ap (λ r. befores_next ops (has_token c.args.token r) (charged r.cost) befores r) (sym c.request-item.is) in (
      c.loop-request.invariant.0 ∙ pass_more ops c.args.token charged befores c.pass.new.befores c.loop-request.requests c.loop-request.request-index request c.pass.new.request (omega arith) c.request-item.is now next,
      c.loop-request.invariant.1 ∙ after_more ops c.args.token charged befores c.pass.new.befores c.loop-request.requests c.loop-request.request-index request c.pass.new.request (omega arith) c.request-item.is now next,
    )

pub returns-clause-requests : goal.returns-clause-requests
returns-clause-requests g c =
    let charged = charges_of g.T.Tag.ops c.args.counting c.args.spacings in
    sym (c.loop-request.invariant.0 ∙ pass_end g.T.Tag.ops c.args.token charged c.loop-request.befores c.loop-request.requests c.loop-request.request-index (omega arith))

pub returns-clause-last : goal.returns-clause-last
returns-clause-last g c =
    let charged = charges_of g.T.Tag.ops c.args.counting c.args.spacings in
    sym (c.loop-request.invariant.1 ∙ after_end g.T.Tag.ops c.args.token charged c.loop-request.befores c.loop-request.requests c.loop-request.request-index (omega arith))
