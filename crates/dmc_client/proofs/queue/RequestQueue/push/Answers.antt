use Rattle.std.proofs.Common.{None, refl, ◌∙◌}
use Rattle.dmc_client.proofs.Deferred.{stored_is_deferred, stored_ok, stored_err, none_is_deferred, none_deferred}
use Rattle.dmc_client.proofs.queue.RequestQueue.push.Goals as goal

pub invariant_of-self : goal.invariant_of-self
invariant_of-self g c = stored_is_deferred g.T.Tag.ops c.push.result c.self.inside.deferred c.self.inside.stored c.push.new.self c.in-Some.stored c.push.ensures.ok c.push.ensures.err c.self.invariant c.in-Some.ensures.1

pub returns-in-Some-clause-ok : goal.returns-in-Some-clause-ok
returns-in-Some-clause-ok g c = stored_ok g.T.Tag.ops c.push.result c.self.inside.deferred c.self.inside.stored c.push.new.self c.args.self.now c.in-Some.stored c.args.request c.push.ensures.ok c.self.view_is c.in-Some.ensures.0

pub invariant_of-self-2 : goal.invariant_of-self-2
invariant_of-self-2 g c = none_is_deferred g.T.Tag.ops _

pub returns-clause-ok : goal.returns-clause-ok
returns-clause-ok g c =
    let before = c.settle.new.stored in
    stored_ok g.T.Tag.ops c.push-2.result None before c.push-2.new.self c.args.self.now c.args.request c.args.request c.push-2.ensures.ok (none_deferred g.T.Tag.ops before ∙ c.settle.ensures ∙ c.self.view_is) refl

pub returns-clause-err : goal.returns-clause-err
returns-clause-err g c =
    let before = c.settle.new.stored in
    stored_err g.T.Tag.ops c.push-2.result None before c.push-2.new.self c.args.self.now c.push-2.ensures.err (none_deferred g.T.Tag.ops before ∙ c.settle.ensures ∙ c.self.view_is)
