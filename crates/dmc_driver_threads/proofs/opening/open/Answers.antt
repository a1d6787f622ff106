use Rattle.std.proofs.Common.{length, subst, sym, ap, ◌∙◌}
use Rattle.dmc_scene.specs.SceneValue.{SceneValue}
use Rattle.dmc_settle.specs.Reports.{AreRows}
use Rattle.dmc_driver_threads.proofs.opening.open.Goals as goal

pub returns-in-Ok-clause-rows : goal.returns-in-Ok-clause-rows
returns-in-Ok-clause-rows g c = subst (λ (scene : SceneValue). AreRows scene c.open_all.new.opened.remains.report) (sym c.requires.scene) c.in-Ok.ensures.rows

pub returns-in-Ok-clause-queues : goal.returns-in-Ok-clause-queues
returns-in-Ok-clause-queues g c = c.in-Ok.ensures.queues ∙ sym (ap (λ (scene : SceneValue). scene.servers) c.requires.scene)

pub returns-in-Ok-clause-trackers : goal.returns-in-Ok-clause-trackers
returns-in-Ok-clause-trackers g c = c.in-Ok.ensures.trackers ∙ sym (ap (λ (scene : SceneValue). length scene.clients) c.requires.scene)
