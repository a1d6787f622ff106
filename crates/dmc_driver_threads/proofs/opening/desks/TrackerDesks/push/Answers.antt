use Rattle.std.proofs.Common.{◌≡◌, ℕ, sym, subst, map}
use Rattle.dmc_ledger.specs.Bundles.{server_side, new_server_side}
use Rattle.dmc_tlock.specs.Opening.{AreNew}
use Rattle.dmc_driver_threads.specs.internal.Desks.{TrackerDesksValue}
use Rattle.dmc_driver_threads.proofs.DeskLemmas.{are_new_after_push}
use Rattle.dmc_driver_threads.proofs.opening.desks.TrackerDesks.push.Goals as goal

pub invariant_of-self : goal.invariant_of-self
invariant_of-self g c = subst (λ xs. AreNew c.self.inside.client.0 (map server_side xs)) (sym (c.in_err-push.ensures.items)) c.self.invariant

pub invariant_of-self-2 : goal.invariant_of-self-2
invariant_of-self-2 g c =
    let IsNext : TrackerDesksValue → Type 0 = λ v. (n : ℕ) × (server_side c.args.desk ≡ new_server_side v.client v.servers n) in
    subst (λ xs. AreNew c.self.inside.client.0 (map server_side xs)) (sym (c.in_ok-push.ensures.items))
    (are_new_after_push c.self.inside.client.0 c.self.inside.desks.items c.args.desk c.self.invariant (subst IsNext (sym c.self.view_is) c.requires))
