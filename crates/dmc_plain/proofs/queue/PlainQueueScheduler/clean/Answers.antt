use Rattle.dmc_types.specs.Limits.{max_clients, max_requests}
use Rattle.dmc_plain.proofs.Cleaned.{cleaned_as, cleaned_kept}
use Rattle.dmc_plain.proofs.queue.PlainQueueScheduler.clean.Goals as goal

pub returns : goal.returns
returns g c =
    cleaned_as g.T.Tag.ops _ c.args.self.now c.args.at c.effective-at.result c.idle_age-idle_age.result c.erase_age-erase_age.result _ _
    c.deref.result.now c.deref-2.result.now _ _ c.self.view_is c.effective-at.ensures c.idle_age-idle_age.ensures.value
    c.erase_age-erase_age.ensures.value c.deref.ensures.value c.deref-2.ensures.value
    c.count_idled-idled.ensures.value c.count_erased-erased.ensures.value c.erase.ensures.items c.change_all.ensures.items

pub invariant_of-self : goal.invariant_of-self
invariant_of-self g c =
    cleaned_kept max_clients max_requests c.self.inside.clients.items c.self.invariant c.effective-at.result c.idle_age-idle_age.result c.erase_age-erase_age.result _ _
    c.erase.ensures.items c.change_all.ensures.items
