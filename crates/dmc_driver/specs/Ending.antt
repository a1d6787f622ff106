-- What is promised of a run, however it ends.
use Rattle.std.specs.Prelude.{◌≡◌, ◌≤◌, ◌⊎◌, ⊤, List, Option, Result, Ok, Err, length, All}
use Rattle.std.specs.List.{AllByRecursion}
use Rattle.dmc_types.specs.Limits.{max_events, max_run_completions}
use Rattle.dmc_tag.specs.Tag.{Tagging}
use Rattle.dmc_tracker.specs.TrackerList.{completions}
use Rattle.dmc_tlock.specs.Consistent.{IsConsistent}
use Rattle.dmc_book.specs.BookState.{BookState}
use Rattle.dmc_book.specs.Consistent.{AreDesks, HasLeft, IsWorker}
use Rattle.dmc_scene.specs.SceneValue.{SceneValue}
use Rattle.dmc_driver_threads.specs.LimitsValue.{LimitsValue}
use Rattle.dmc_driver_threads.specs.Opened.{IsRegistered}
use Rattle.dmc_settle.specs.Circle.{AreCircles}
use Rattle.dmc_settle.specs.Left.{AreTogether, Left}
use Rattle.dmc_settle.specs.Reports.{IsReport, IsReportOf}
use Rattle.dmc_settle.specs.declared.report.StopCause.{StopCause}
use Rattle.dmc_settle.specs.declared.report.ClusterReport.{ClusterReport}
use Rattle.dmc_driver.specs.Done.{IsDone, RanOut}
use Rattle.dmc_driver.specs.Stops.{AreExplained, AreStops}
use Rattle.dmc_driver.specs.declared.fault.DriveFault.{DriveFault}
use Rattle.dmc_driver.specs.declared.fault.DriveFault.TheVariants.{Memory, Torn, TurnsOut, Stopped}

-- the widest limits
abbrev pub widest : LimitsValue
widest = record { events = max_events; completions = max_run_completions }

-- ---- what the threads left

-- no history has more events than the limits allow, and what a tracker's completions cost is no more than they allow
pub record AreWithin {T : Type 0} (limits : LimitsValue) (left : Left T) : Type 0 where
  pub histories : All (λ book. length book.history ≤ limits.events) left.books
  pub completions : All (λ book. (completions book.events).delta ≤ limits.completions) left.trackers

-- the first commands of each server's history register the scene's clients, in its order, with its rates
abbrev pub AreRegistered : {T : Type 0} → SceneValue → Left T → Type 0
AreRegistered scene left = All (λ book. IsRegistered scene.clients book.history) left.books

-- a server's workers and desks count its history
pub record IsCounted {T : Type 0} (book : BookState T) : Type 0 where
  pub workers : AllByRecursion (λ w. IsWorker book.history w ⊎ HasLeft book.history w) book.workers
  pub desks : AreDesks book.history book.server book.workers book.desks

-- The parts are those of one cluster, set up as the scene says, and their circles hold, in number and in cost. Each server's
-- history begins with the registrations of the scene's clients, with their rates. All are within the limits. The books count what
-- happened: those of a server its history, and those of a tracker its list.
pub record IsRun {T : Type 0} (scene : SceneValue) (limits : LimitsValue) (left : Left T) : Type 0 where
  pub together : AreTogether scene left
  pub circles : AreCircles left
  pub registered : AreRegistered scene left
  pub within : AreWithin limits left
  pub counted : All IsCounted left.books
  pub consistent : All IsConsistent left.trackers

-- ---- the report

-- The report is the one of what was left, which is a run of the scene. So `held` is what was left in the passes, `completed` how
-- many responses the tracker's list has, and `cost` what they cost.
pub record IsReportOfLeft {T : Type 0} (ops : Tagging T) (scene : SceneValue) (limits : LimitsValue) (left : Left T) (r : ClusterReport T) : Type 0 where
  pub run : IsRun scene limits left
  pub its : IsReportOf left r
  pub report : IsReport ops scene r

-- It is the one of what the threads left, and the stops are those that the histories explain.
pub record IsRunReport {T : Type 0} (ops : Tagging T) (scene : SceneValue) (limits : LimitsValue) (r : ClusterReport T) : Type 0 where
  pub left : Left T
  pub of_left : IsReportOfLeft ops scene limits left r
  pub stops : AreStops scene r

-- ---- what comes of what was left

-- By a report, if the servers' own workers ended so: torn exactly if the histories do not explain that, and with the report
-- if they do.
abbrev pub EndsWith : {T : Type 0} → SceneValue → List (List (Option StopCause)) → ClusterReport T → Result (ClusterReport T) (DriveFault T) → Type 0
EndsWith scene ends r (Ok given) = (given ≡ r) × AreExplained scene ends r
EndsWith scene ends r (Err Memory) = ⊥
EndsWith scene ends r (Err Torn) = AreExplained scene ends r → ⊥
EndsWith scene ends r (Err (TurnsOut given)) = (given ≡ r) × AreExplained scene ends r
EndsWith scene ends r (Err (Stopped given)) = (given ≡ r) × AreExplained scene ends r

-- And by what was left: torn if that does not belong together, and else as its report says.
abbrev pub Settles : {T : Type 0} → Tagging T → SceneValue → LimitsValue → Left T → List (List (Option StopCause)) → Result (ClusterReport T) (DriveFault T) → Type 0
Settles {T} ops scene limits left ends result =
    ((AreTogether scene left → ⊥) × (result ≡ Err Torn)) ⊎ ((r : ClusterReport T) × IsReportOfLeft ops scene limits left r × EndsWith scene ends r result)

-- ---- what a run returns

-- A report is the one of what the threads left. Of Memory and Torn nothing is said: `Settles` says when settling is torn, and
-- what was left is not in this result.
abbrev pub Reports : {T : Type 0} → Tagging T → SceneValue → LimitsValue → Result (ClusterReport T) (DriveFault T) → Type 0
Reports ops scene limits (Ok r) = IsRunReport ops scene limits r
Reports ops scene limits (Err Memory) = ⊤
Reports ops scene limits (Err Torn) = ⊤
Reports ops scene limits (Err (TurnsOut r)) = IsRunReport ops scene limits r
Reports ops scene limits (Err (Stopped r)) = IsRunReport ops scene limits r

-- Ok: all was done. TurnsOut: it was not, and some worker took its last turn. Stopped: it was not, and none did.
abbrev pub EndsSo : {T : Type 0} → SceneValue → Result (ClusterReport T) (DriveFault T) → Type 0
EndsSo scene (Ok r) = IsDone scene r
EndsSo scene (Err Memory) = ⊤
EndsSo scene (Err Torn) = ⊤
EndsSo scene (Err (TurnsOut r)) = (IsDone scene r → ⊥) × RanOut r
EndsSo scene (Err (Stopped r)) = (IsDone scene r → ⊥) × (RanOut r → ⊥)
