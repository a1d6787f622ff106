-- What a run of a scene in threads writes, and how it ends.
use Rattle.std.specs.Prelude.{◌≡◌, ℕ, ⊤, true, List, Option, Result, Ok, Err}
use Rattle.std.specs.Io.KnownBytes.{Appends, Keeps}
use Rattle.dmc_types.specs.declared.config.TagKind.{TagKind}
use Rattle.dmc_types.specs.declared.config.TagKind.TheVariants.{Tick, Ratio}
use Rattle.dmc_tag.specs.Tag.{Tagging}
use Rattle.dmc_tick.specs.Tick.{tick_ops}
use Rattle.dmc_ratio.specs.Ratio.{ratio_ops}
use Rattle.dmc_text.specs.Texts.{AppendsSome}
use Rattle.dmc_text.specs.Watching.{failed, IsCalm}
use Rattle.dmc_text.specs.declared.watched.Watched.{Watched}
use Rattle.dmc_check.specs.declared.check.Verdict.{Verdict}
use Rattle.dmc_scene.specs.SceneValue.{SceneValue, has_costs}
use Rattle.dmc_settle.specs.declared.report.ClusterReport.{ClusterReport}
use Rattle.dmc_driver.specs.Done.{IsDone, RanOut}
use Rattle.dmc_driver.specs.Ending.{IsRunReport, widest}
use Rattle.dmc_tool.specs.ReportTexts.{report_text}
use Rattle.dmc_tool.specs.Verdicts.{AreVerdicts}
use Rattle.dmc_tool.specs.declared.run_scene.RunSceneFault.{RunSceneFault}
use Rattle.dmc_tool.specs.declared.run_scene.RunSceneFault.TheVariants.{Memory, Torn, Write, TurnsOut, Stopped}

-- the text of the report, with the verdicts on its histories
pub record IsTextOf {T : Type 0} (ops : Tagging T) (scene : SceneValue) (r : ClusterReport T) (text : List ℕ) : Type 0 where
  pub verdicts : List Verdict
  pub theirs : AreVerdicts ops scene.config r.servers.items verdicts
  pub text_is : text ≡ report_text (has_costs scene.clients) r verdicts

-- the report of a run of the scene is written, and P holds of it
abbrev pub Reported : {T : Type 0} → Tagging T → SceneValue → (old new : Option (List ℕ)) → (ClusterReport T → Type 0) → Type 0
Reported {T} ops scene old new P = (r : ClusterReport T) × (text : List ℕ) × IsRunReport ops scene widest r × IsTextOf ops scene r text × Appends old new text × P r

-- By how a run on these tags ends: the report is written, and all was done, or it was not and some worker took its last turn, or
-- none did; or a first part of the report is written, if the writer fails; otherwise nothing is, and the run was torn or memory was
-- refused.
abbrev pub RunsOn : {T : Type 0} → Tagging T → SceneValue → (old new : Option (List ℕ)) → Result ⊤ RunSceneFault → Type 0
RunsOn ops scene old new (Ok x) = Reported ops scene old new (IsDone scene)
RunsOn ops scene old new (Err TurnsOut) = Reported ops scene old new (λ r. (IsDone scene r → ⊥) × RanOut r)
RunsOn ops scene old new (Err Stopped) = Reported ops scene old new (λ r. (IsDone scene r → ⊥) × (RanOut r → ⊥))
RunsOn {T} ops scene old new (Err Write) = (r : ClusterReport T) × (text : List ℕ) × IsRunReport ops scene widest r × IsTextOf ops scene r text × AppendsSome old new text
RunsOn ops scene old new (Err Memory) = Keeps old new
RunsOn ops scene old new (Err Torn) = Keeps old new

abbrev pub RunsIn : TagKind → SceneValue → (old new : Option (List ℕ)) → Result ⊤ RunSceneFault → Type 0
RunsIn Tick scene old new end = RunsOn tick_ops scene old new end
RunsIn Ratio scene old new end = RunsOn ratio_ops scene old new end

-- the run on the tags that the scene names
abbrev pub RunsScene : SceneValue → (old new : Option (List ℕ)) → Result ⊤ RunSceneFault → Type 0
RunsScene scene old new end = RunsIn scene.tags scene old new end

-- Write is reported exactly if the writer failed.
abbrev pub ReportNoted : {W : Type 0} → (old new : Watched W) → Result ⊤ RunSceneFault → Type 0
ReportNoted old new (Err Write) = failed new ≡ true
ReportNoted old new (Err fault) = IsCalm old new
ReportNoted old new (Ok x) = IsCalm old new
