use Rattle.std.proofs.Common.{◌<◌, length, ap, arith, subst, sym}
use Rattle.dmc_types.specs.Limits.{max_clients, max_requests}
use Rattle.dmc_tag.specs.State.{State, PlainClient}
use Rattle.dmc_plain.proofs.Changed.{stays_kept, updated_as}
use Rattle.dmc_plain.proofs.queue.PlainQueueScheduler.update_info.Given.{Over}
use Rattle.dmc_plain.proofs.queue.PlainQueueScheduler.update_info.Goals.{After-update}
use Rattle.dmc_plain.proofs.queue.PlainQueueScheduler.update_info.Goals as goal

within : (g : Over) (c : After-update g) → c.in_ok-index.index < length c.self.inside.clients.items
within g c = subst (λ (s : State g.row.T.Denot). c.in_ok-index.index < length s.clients) (sym c.self.view_is) c.in_ok-index.ensures.bound

pub invariant_of-self : goal.invariant_of-self
invariant_of-self g c =
    stays_kept max_clients max_requests _ c.args.self.now c.self.view_is c.self.invariant c.in_ok-index.index c.index_mut.result.now
    (within g (goal.at.invariant_of-self g c).After-update) c.index_mut.ensures.value
    c.update.new.self (ap (λ (c : PlainClient g.row.T.Denot). c.id) c.update.ensures) (omega (arith, ap (λ (c : PlainClient g.row.T.Denot). length c.requests) c.update.ensures))

pub returns : goal.returns
returns g c =
    updated_as max_clients max_requests _ c.args.self.now c.self.view_is c.self.invariant c.in_ok-index.index c.index_mut.result.now
    (within g (goal.at.returns g c).After-update) c.index_mut.ensures.value
    g.T.Tag.ops c.args.client c.args.info c.args.at c.effective-at.result _ c.in_ok-index.ensures.client c.in_ok-index.ensures.outcome c.effective-at.ensures c.update.ensures
