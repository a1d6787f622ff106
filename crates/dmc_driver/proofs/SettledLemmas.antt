-- What the threads of a run left, and how the run ends by it.
use Rattle.std.proofs.Common.{◌≡◌, ◌≤◌, List, Option, Result, Ok, Err, length, sym, subst, inl, inr, arith}
use Rattle.std.specs.Prelude.{All}
use Rattle.dmc_tag.specs.Tag.{Tagging}
use Rattle.dmc_tracker.specs.TrackerList.{completions}
use Rattle.dmc_tlock.specs.BookState as tracker_book
use Rattle.dmc_book.specs.BookState.{BookState}
use Rattle.dmc_scene.specs.SceneValue.{SceneValue}
use Rattle.dmc_driver_threads.specs.LimitsValue.{LimitsValue}
use Rattle.dmc_driver_threads.specs.Opened.{IsOpenedBook, IsOpenedTracker}
use Rattle.dmc_settle.specs.Left.{Left}
use Rattle.dmc_settle.specs.declared.report.StopCause.{StopCause}
use Rattle.dmc_settle.specs.declared.report.ClusterReport.{ClusterReport}
use Rattle.dmc_driver.specs.Ending.{AreWithin, EndsWith, IsReportOfLeft, IsRunReport, Reports, Settles}
use Rattle.dmc_driver.specs.Stops.{AreExplained}
use Rattle.dmc_driver.specs.declared.fault.DriveFault.{DriveFault}
use Rattle.dmc_driver.specs.declared.fault.DriveFault.TheVariants.{Memory, Torn, TurnsOut, Stopped}

-- what was opened with the limits of a run, and keeps to its own, keeps to those of the run
pub within_limits : {T : Type 0} (scene : SceneValue) (limits : LimitsValue) (left : Left T) → All (IsOpenedBook scene limits) left.books → All (IsOpenedTracker scene limits) left.trackers
    → All (λ (b : BookState T). length b.history ≤ b.most) left.books → All (λ (b : tracker_book.BookState). (completions b.events).delta ≤ b.tracker.most) left.trackers
    → AreWithin limits left
within_limits scene limits left books trackers events counts = record {
  histories = λ k d within. omega (arith, events k d within, (books k d within).most);
  completions = λ k d within. omega (arith, counts k d within, (trackers k d within).most);
}

-- ---- how a run ends

reported : {T : Type 0} (ops : Tagging T) (scene : SceneValue) (limits : LimitsValue) (left : Left T) (ends : List (List (Option StopCause))) (r given : ClusterReport T)
    → IsReportOfLeft ops scene limits left r → (given ≡ r) × AreExplained scene ends r → IsRunReport ops scene limits given
reported ops scene limits left ends r given its ended =
    subst (IsRunReport ops scene limits) (sym ended.0) (record { left = left; of_left = its; stops = (ends, ended.1) })

by_report : {T : Type 0} (ops : Tagging T) (scene : SceneValue) (limits : LimitsValue) (left : Left T) (ends : List (List (Option StopCause))) (r : ClusterReport T)
    (result : Result (ClusterReport T) (DriveFault T)) → IsReportOfLeft ops scene limits left r → EndsWith scene ends r result → Reports ops scene limits result
by_report ops scene limits left ends r (Ok given) its ended = reported ops scene limits left ends r given its ended
by_report ops scene limits left ends r (Err Memory) its ended = tt
by_report ops scene limits left ends r (Err Torn) its ended = tt
by_report ops scene limits left ends r (Err (TurnsOut given)) its ended = reported ops scene limits left ends r given its ended
by_report ops scene limits left ends r (Err (Stopped given)) its ended = reported ops scene limits left ends r given its ended

pub reports : {T : Type 0} (ops : Tagging T) (scene : SceneValue) (limits : LimitsValue) (left : Left T) (ends : List (List (Option StopCause)))
    (result : Result (ClusterReport T) (DriveFault T)) → Settles ops scene limits left ends result → Reports ops scene limits result
reports ops scene limits left ends result settled = elim settled [
  | inl apart ↦ subst (Reports ops scene limits) (sym apart.1) tt
  | inr its ↦ by_report ops scene limits left ends its.0 result its.1 its.2
]
