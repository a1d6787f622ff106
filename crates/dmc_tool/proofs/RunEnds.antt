-- How a run of a scene ends, by what its report was reported as.
use Rattle.std.specs.Prelude.{⊤}
use Rattle.std.proofs.Common.{ℕ, List, Option, Result, Ok, Err, sym, subst}
use Rattle.dmc_tag.specs.Tag.{Tagging}
use Rattle.dmc_scene.specs.SceneValue.{SceneValue}
use Rattle.dmc_settle.specs.declared.report.ClusterReport.{ClusterReport}
use Rattle.dmc_driver.specs.Done.{IsDone, RanOut}
use Rattle.dmc_driver.specs.Ending.{EndsSo, IsRunReport, Reports, widest}
use Rattle.dmc_driver.specs.declared.fault.DriveFault.{DriveFault}
use Rattle.dmc_driver.specs.declared.fault.DriveFault.TheVariants as drive
use Rattle.dmc_tool.specs.RunReports.{RunsOn}
use Rattle.dmc_tool.specs.internal.RunReports.{WritesReport, WritesFaultReport, WritesReportThen}
use Rattle.dmc_tool.specs.declared.run_scene.RunSceneFault.{RunSceneFault}
use Rattle.dmc_tool.specs.declared.run_scene.RunSceneFault.TheVariants.{Memory, Torn, Write, TurnsOut, Stopped}

pub written_done : {T : Type 0} (ops : Tagging T) (scene : SceneValue) (r : ClusterReport T) (old new : Option (List ℕ)) (end : Result ⊤ RunSceneFault)
    → IsRunReport ops scene widest r → IsDone scene r → WritesReport ops scene r old new end → RunsOn ops scene old new end
written_done ops scene r old new (Ok x) is done written = (r, written.0, is, written.1, written.2, done)
written_done ops scene r old new (Err Write) is done written = (r, written.0, is, written.1, written.2)
written_done ops scene r old new (Err Memory) is done written = written
written_done ops scene r old new (Err Torn) is done written = absurd written
written_done ops scene r old new (Err TurnsOut) is done written = absurd written
written_done ops scene r old new (Err Stopped) is done written = absurd written

written_turns_out : {T : Type 0} (ops : Tagging T) (scene : SceneValue) (r : ClusterReport T) (old new : Option (List ℕ)) (end : Result ⊤ RunSceneFault)
    → IsRunReport ops scene widest r → (IsDone scene r → ⊥) × RanOut r → WritesReportThen ops scene r TurnsOut old new end → RunsOn ops scene old new end
written_turns_out ops scene r old new (Ok x) is why written = absurd written
written_turns_out ops scene r old new (Err Write) is why written = (r, written.0, is, written.1, written.2)
written_turns_out ops scene r old new (Err Memory) is why written = written
written_turns_out ops scene r old new (Err Torn) is why written = absurd written
written_turns_out ops scene r old new (Err TurnsOut) is why written = (r, written.1.0, is, written.1.1, written.1.2, why)
written_turns_out ops scene r old new (Err Stopped) is why written = let other = written.0 in absurd cc

written_stopped : {T : Type 0} (ops : Tagging T) (scene : SceneValue) (r : ClusterReport T) (old new : Option (List ℕ)) (end : Result ⊤ RunSceneFault)
    → IsRunReport ops scene widest r → (IsDone scene r → ⊥) × (RanOut r → ⊥) → WritesReportThen ops scene r Stopped old new end → RunsOn ops scene old new end
written_stopped ops scene r old new (Ok x) is why written = absurd written
written_stopped ops scene r old new (Err Write) is why written = (r, written.0, is, written.1, written.2)
written_stopped ops scene r old new (Err Memory) is why written = written
written_stopped ops scene r old new (Err Torn) is why written = absurd written
written_stopped ops scene r old new (Err TurnsOut) is why written = let other = written.0 in absurd cc
written_stopped ops scene r old new (Err Stopped) is why written = (r, written.1.0, is, written.1.1, written.1.2, why)

pub written_fault : {T : Type 0} (ops : Tagging T) (scene : SceneValue) (f : DriveFault T) (old new : Option (List ℕ)) (end : Result ⊤ RunSceneFault)
    → Reports ops scene widest (Err f) → EndsSo scene (Err f) → WritesFaultReport ops scene f old new end → RunsOn ops scene old new end
written_fault ops scene drive.Memory old new end is why written = subst (RunsOn ops scene old new) (sym written.0) written.1
written_fault ops scene drive.Torn old new end is why written = subst (RunsOn ops scene old new) (sym written.0) written.1
written_fault ops scene (drive.TurnsOut r) old new end is why written = written_turns_out ops scene r old new end is why written
written_fault ops scene (drive.Stopped r) old new end is why written = written_stopped ops scene r old new end is why written
