use Rattle.std.proofs.Common.{◌≡◌, ◌<◌, ◌∙◌, length, ap, arith, subst}
use Rattle.std.specs.Prelude.{slice_get}
use Rattle.dmc_types.specs.Limits.{max_clients, max_requests}
use Rattle.dmc_tag.specs.Cancel.{charged_to, no_befores}
use Rattle.dmc_tag.specs.State.{PlainClient, State, client_named}
use Rattle.dmc_plain.proofs.Cancelled.{stay_count}
use Rattle.dmc_plain.proofs.Changed.{stays_kept, own_bound, cancelled_as}
use Rattle.dmc_plain.proofs.queue.PlainQueueScheduler.cancel.Given.{Over}
use Rattle.dmc_plain.proofs.queue.PlainQueueScheduler.cancel.Goals.{After-cancel}
use Rattle.dmc_plain.proofs.queue.PlainQueueScheduler.cancel.Goals as goal

within : (g : Over) (c : After-cancel g) → c.in-Some.index < length c.self.inside.clients.items
within g c = subst (λ cs. c.in-Some.index < length cs) c.deref.ensures.value c.in-Some.ensures.bound

pub overflow_cast-result : goal.overflow_cast-result
overflow_cast-result g c =
    let bound = own_bound max_clients max_requests _ c.args.self.now c.self.view_is c.self.invariant c.in-Some.index c.index_mut-owner.result.now
    (within g (goal.at.overflow_cast-result g c).After-cancel) c.index_mut-owner.ensures.value in
    omega (arith, bound, c.count-taken.ensures.bound, ap length c.requests.ensures)

pub invariant_of-self : goal.invariant_of-self
invariant_of-self g c =
    let client = c.index_mut-owner.result.now in
    let fewer = stay_count g.T.Tag.ops c.args.token (charged_to g.T.Tag.ops c.hz-hz.result c.args.counting client) no_befores client.requests in
    stays_kept max_clients max_requests _ c.args.self.now c.self.view_is c.self.invariant c.in-Some.index client
    (within g (goal.at.invariant_of-self g c).After-cancel) c.index_mut-owner.ensures.value
    c.cancel.new.self (ap (λ (c : PlainClient g.row.T.Denot). c.id) c.cancel.ensures) (omega (arith, fewer, ap (λ (c : PlainClient g.row.T.Denot). length c.requests) c.cancel.ensures))

pub returns : goal.returns
returns g c =
    let named = subst (λ cs. slice_get cs c.in-Some.index ≡ client_named c.args.client cs) (c.deref.ensures.value ∙ ap (λ (s : State g.row.T.Denot). s.clients) c.self.view_is) c.in-Some.ensures.client in
    rw (c.count-taken.ensures.value, c.requests.ensures) (cancelled_as max_clients max_requests _ c.args.self.now c.self.view_is c.self.invariant c.in-Some.index c.index_mut-owner.result.now
    (within g (goal.at.returns g c).After-cancel) c.index_mut-owner.ensures.value
    g.T.Tag.ops c.args.client c.args.token c.args.counting c.hz-hz.result c.cancel.new.self named c.hz-hz.ensures.value c.cancel.ensures)
