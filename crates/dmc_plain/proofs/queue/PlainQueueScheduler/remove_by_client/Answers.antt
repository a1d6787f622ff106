use Rattle.std.proofs.Common.{◌≡◌, ◌<◌, ◌∙◌, length, ap, arith, subst}
use Rattle.std.specs.Prelude.{slice_get}
use Rattle.dmc_types.specs.Limits.{max_clients, max_requests}
use Rattle.dmc_tag.specs.State.{PlainClient, State, client_named}
use Rattle.dmc_plain.proofs.Changed.{stays_kept, own_bound, removed_as}
use Rattle.dmc_plain.proofs.queue.PlainQueueScheduler.remove_by_client.Given.{Over}
use Rattle.dmc_plain.proofs.queue.PlainQueueScheduler.remove_by_client.Goals.{After-clear}
use Rattle.dmc_plain.proofs.queue.PlainQueueScheduler.remove_by_client.Goals as goal

within : (g : Over) (c : After-clear g) → c.in-Some.index < length c.self.inside.clients.items
within g c = subst (λ cs. c.in-Some.index < length cs) c.deref.ensures.value c.in-Some.ensures.bound

pub overflow_cast-result : goal.overflow_cast-result
overflow_cast-result g c =
    let bound = own_bound max_clients max_requests _ c.args.self.now c.self.view_is c.self.invariant c.in-Some.index c.index_mut-client.result.now
    (within g (goal.at.overflow_cast-result g c).After-clear) c.index_mut-client.ensures.value in
    omega (arith, bound, ap length c.requests-count.ensures)

pub invariant_of-self : goal.invariant_of-self
invariant_of-self g c =
    stays_kept max_clients max_requests _ c.args.self.now c.self.view_is c.self.invariant c.in-Some.index c.index_mut-client.result.now
    (within g (goal.at.invariant_of-self g c).After-clear) c.index_mut-client.ensures.value
    c.clear.new.self (ap (λ (c : PlainClient g.row.T.Denot). c.id) c.clear.ensures) (omega (arith, ap (λ (c : PlainClient g.row.T.Denot). length c.requests) c.clear.ensures))

pub returns : goal.returns
returns g c =
    let named = subst (λ cs. slice_get cs c.in-Some.index ≡ client_named c.args.client cs) (c.deref.ensures.value ∙ ap (λ (s : State g.row.T.Denot). s.clients) c.self.view_is) c.in-Some.ensures.client in
    rw c.requests-count.ensures (removed_as max_clients max_requests _ c.args.self.now c.self.view_is c.self.invariant c.in-Some.index c.index_mut-client.result.now
    (within g (goal.at.returns g c).After-clear) c.index_mut-client.ensures.value
    g.T.Tag.ops c.args.client c.clear.new.self named c.clear.ensures)
