-- Writing a report, part by part.
use Rattle.std.specs.Prelude.{◌≡◌, ℕ, ⊤, List, Option, Result, Ok, Err}
use Rattle.std.specs.Io.KnownBytes.{Appends, Keeps}
use Rattle.dmc_tag.specs.Tag.{Tagging}
use Rattle.dmc_text.specs.Texts.{AppendsSome}
use Rattle.dmc_scene.specs.SceneValue.{SceneValue}
use Rattle.dmc_settle.specs.declared.report.ClusterReport.{ClusterReport}
use Rattle.dmc_driver.specs.declared.fault.DriveFault.{DriveFault}
use Rattle.dmc_driver.specs.declared.fault.DriveFault.TheVariants as drive
use Rattle.dmc_tool.specs.declared.run_scene.RunSceneFault.{RunSceneFault}
use Rattle.dmc_tool.specs.declared.run_scene.RunSceneFault.TheVariants.{Memory, Torn, Write, TurnsOut, Stopped}
use Rattle.dmc_tool.specs.RunReports.{IsTextOf}

-- writing a report: all of its text is written, or a first part if the writer fails, or nothing if an allocation failed
abbrev pub WritesReport : {T : Type 0} → Tagging T → SceneValue → ClusterReport T → (old new : Option (List ℕ)) → Result ⊤ RunSceneFault → Type 0
WritesReport ops scene r old new (Ok x) = (text : List ℕ) × IsTextOf ops scene r text × Appends old new text
WritesReport ops scene r old new (Err Write) = (text : List ℕ) × IsTextOf ops scene r text × AppendsSome old new text
WritesReport ops scene r old new (Err Memory) = Keeps old new
WritesReport ops scene r old new (Err Torn) = ⊥
WritesReport ops scene r old new (Err TurnsOut) = ⊥
WritesReport ops scene r old new (Err Stopped) = ⊥

-- the report is written, and then the fault is this one; or it can't be written
abbrev pub WritesReportThen : {T : Type 0} → Tagging T → SceneValue → ClusterReport T → RunSceneFault → (old new : Option (List ℕ)) → Result ⊤ RunSceneFault → Type 0
WritesReportThen ops scene r fault old new (Ok x) = ⊥
WritesReportThen ops scene r fault old new (Err Write) = WritesReport ops scene r old new (Err Write)
WritesReportThen ops scene r fault old new (Err Memory) = Keeps old new
WritesReportThen ops scene r fault old new (Err Torn) = ⊥
WritesReportThen ops scene r fault old new (Err TurnsOut) = (fault ≡ TurnsOut) × ((text : List ℕ) × IsTextOf ops scene r text × Appends old new text)
WritesReportThen ops scene r fault old new (Err Stopped) = (fault ≡ Stopped) × ((text : List ℕ) × IsTextOf ops scene r text × Appends old new text)

-- the report of a run that was not done is written, if it has one
abbrev pub WritesFaultReport : {T : Type 0} → Tagging T → SceneValue → DriveFault T → (old new : Option (List ℕ)) → Result ⊤ RunSceneFault → Type 0
WritesFaultReport ops scene drive.Memory old new end = (end ≡ Err Memory) × Keeps old new
WritesFaultReport ops scene drive.Torn old new end = (end ≡ Err Torn) × Keeps old new
WritesFaultReport ops scene (drive.TurnsOut r) old new end = WritesReportThen ops scene r TurnsOut old new end
WritesFaultReport ops scene (drive.Stopped r) old new end = WritesReportThen ops scene r Stopped old new end
