use Rattle.std.proofs.Common.{length, subst, ap, ◌∙◌}
use Rattle.std.specs.Prelude.{All}
use Rattle.dmc_scene.specs.SceneValue.{SceneValue}
use Rattle.dmc_settle.specs.Reports.{AreRows}
use Rattle.dmc_driver_threads.specs.Opened.{IsOpenedBook, IsOpenedTracker}
use Rattle.dmc_driver_threads.proofs.workers.run_workers.Goals as goal

pub returns-clause-books : goal.returns-clause-books
returns-clause-books g c =
    let books = c.run_opened.result.books.items in
    subst (λ limits. All (IsOpenedBook c.args.scene.now limits) books) c.requires.limits
    (subst (λ scene. All (IsOpenedBook scene g.S.Origin.limits) books) c.requires.scene c.run_opened.ensures.books)

pub returns-clause-trackers : goal.returns-clause-trackers
returns-clause-trackers g c =
    let trackers = c.run_opened.result.trackers.items in
    subst (λ limits. All (IsOpenedTracker c.args.scene.now limits) trackers) c.requires.limits
    (subst (λ scene. All (IsOpenedTracker scene g.S.Origin.limits) trackers) c.requires.scene c.run_opened.ensures.trackers)

pub returns-clause-rows : goal.returns-clause-rows
returns-clause-rows g c = subst (λ (scene : SceneValue). AreRows scene c.run_opened.result.report) c.requires.scene c.run_opened.ensures.rows

pub returns-clause-as_many_books : goal.returns-clause-as_many_books
returns-clause-as_many_books g c =
    c.run_opened.ensures.as_many_books ∙ c.in_ok-opened.ensures.queues ∙ ap (λ (scene : SceneValue). scene.servers) c.requires.scene

pub returns-clause-as_many_trackers : goal.returns-clause-as_many_trackers
returns-clause-as_many_trackers g c =
    c.run_opened.ensures.as_many_trackers ∙ c.in_ok-opened.ensures.trackers ∙ ap (λ (scene : SceneValue). length scene.clients) c.requires.scene
