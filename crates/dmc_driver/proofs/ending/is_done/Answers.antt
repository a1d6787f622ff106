use Rattle.std.proofs.Common.{rules, subst, sym}
use Rattle.dmc_driver.specs.internal.Rows.{AreClientsDone}
use Rattle.dmc_driver.proofs.ending.is_done.Goals as goal

pub returns-then-not-are_clients_done : goal.returns-then-not-are_clients_done
returns-then-not-are_clients_done g c = (
  (λ e. search rules),
  (λ d.
      let done : AreClientsDone c.clients.result.now c.deref.result.now = subst (λ xs. AreClientsDone xs c.deref.result.now) (sym c.clients.ensures.value)
      (subst (λ rows. AreClientsDone c.args.scene.now.clients rows) (sym c.deref.ensures.value) d.clients) in
      let yes = c.are_clients_done.ensures.1 done in
      search rules),
)
