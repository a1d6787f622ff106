-- The notes of the streams at the end of a run.
use Rattle.std.proofs.Common.{◌≡◌, ℕ, List, refl, sym, subst, Bool, true, false, Option, Some, None, Result, Ok, Err}
use Rattle.std.specs.Prelude.{IsErrAnd, ⊤, if◌then◌else◌}
use Rattle.dmc_text.specs.declared.script.ScriptFault.{ScriptFault}
use Rattle.dmc_text.specs.declared.script.ScriptFault.TheVariants as script
use Rattle.dmc_text.specs.declared.watched.Watched.{Watched}
use Rattle.dmc_text.specs.Watching.{IsCalm, EndsNoted, SendsNoted}
use Rattle.dmc_check.specs.declared.check.Verdict.{Verdict}
use Rattle.dmc_tool.specs.declared.run_scene.RunSceneFault.{RunSceneFault}
use Rattle.dmc_tool.specs.declared.run_scene.RunSceneFault.TheVariants as run
use Rattle.dmc_tool.specs.RunReports as runs
use Rattle.dmc_scene.specs.declared.fault.SceneFault.{SceneFault}
use Rattle.dmc_scene.specs.declared.fault.SceneFault.TheVariants as scene
use Rattle.dmc_scene.specs.SceneValue.{SceneValue}
use Rattle.dmc_sim.specs.declared.report.SimFault.{SimFault}
use Rattle.dmc_sim.specs.declared.report.SimFault.TheVariants as sim
use Rattle.dmc_tool.specs.Faults.{fault_of_run, fault_of_scene, fault_of_script, fault_of_sim, fault_of_words}
use Rattle.dmc_tool.specs.Notes.{CheckNoted, CommandNoted, ReportNoted, SceneNoted, ScriptNoted, WordsNoted}
use Rattle.dmc_tool.specs.Scenes.{ReadsScene}
use Rattle.dmc_tool.specs.declared.fault.Fault.{Fault}
use Rattle.dmc_tool.specs.declared.fault.Fault.TheVariants as fault
use Rattle.dmc_tool.specs.declared.outcome.Outcome.{Outcome}
use Rattle.dmc_tool.specs.declared.outcome.Outcome.TheVariants.{Done}
use Rattle.dmc_tool.specs.declared.words.Tool.{Tool}
use Rattle.dmc_tool.specs.declared.words.ToolCommand.{ToolCommand}
use Rattle.dmc_tool.specs.declared.words.ToolCommand.TheVariants.{Script, Check, Sim, Run}
use Rattle.dmc_tool.specs.declared.words.WordsFault.{WordsFault}
use Rattle.dmc_tool.specs.declared.words.WordsFault.TheVariants as words

-- a text that is no scene was read without a failure
no_scene : {R : Type 0} (before after : Watched R) (cause : SceneFault) → IsCalm before after → SceneNoted before after (Err (fault_of_scene cause))
no_scene before after scene.Text calm = calm
no_scene before after (scene.Missing key client) calm = calm
no_scene before after (scene.Kind key client) calm = calm
no_scene before after (scene.Value key client) calm = calm
no_scene before after scene.Memory calm = calm

pub no_scene_as : {R : Type 0} (before after : Watched R) (cause : SceneFault) (result : Result SceneValue Fault) → IsCalm before after → IsErrAnd result (λ reported. reported ≡ fault_of_scene cause)
    → SceneNoted before after result
no_scene_as before after cause (Ok s) calm e = absurd e
no_scene_as before after cause (Err f) calm e = subst (λ x. SceneNoted before after (Err x)) (sym e) (no_scene before after cause calm)

module _ {R W : Type 0} (left : R → Option (List ℕ)) (before after : Watched R) (old new : Watched W) where
  -- ---- a script and events

  script_fault : (f : ScriptFault) → SendsNoted {X = ⊤} left 0 before after old new (Err f) → ScriptNoted left before after old new (Err (fault_of_script f))
  script_fault (script.Line n cause) h = h
  script_fault script.Read h = h
  script_fault script.Write h = h
  script_fault script.Memory h = h

  pub script_noted : (f : ScriptFault) (result : Result Outcome Fault) → SendsNoted {X = ⊤} left 0 before after old new (Err f) → IsErrAnd result (λ reported. reported ≡ fault_of_script f)
      → ScriptNoted left before after old new result
  script_noted f (Ok outcome) h e = absurd e
  script_noted f (Err reported) h e = subst (λ x. ScriptNoted left before after old new (Err x)) (sym e) (script_fault f h)

  check_fault : (f : ScriptFault) → EndsNoted {X = Verdict} left 0 before after old new (Err f) → CheckNoted left before after old new (Err (fault_of_script f))
  check_fault (script.Line n cause) h = h
  check_fault script.Read h = h
  check_fault script.Write h = h
  check_fault script.Memory h = h

  pub check_noted : (f : ScriptFault) (result : Result Outcome Fault) → EndsNoted {X = Verdict} left 0 before after old new (Err f) → IsErrAnd result (λ reported. reported ≡ fault_of_script f)
      → CheckNoted left before after old new result
  check_noted f (Ok outcome) h e = absurd e
  check_noted f (Err reported) h e = subst (λ x. CheckNoted left before after old new (Err x)) (sym e) (check_fault f h)

-- ---- scenes

-- no scene is read, and nothing is written
scene_fault : {R W : Type 0} (r r' : Option (List ℕ)) (before after : Watched R) (old : Watched W) (f : Fault) → ReadsScene r r' (Err f) → SceneNoted before after (Err f)
    → ReportNoted before after old old (Err f)
scene_fault r r' before after old fault.Usage reads noted = (noted, refl)
scene_fault r r' before after old (fault.Line number cause) reads noted = (noted, refl)
scene_fault r r' before after old fault.Read reads noted = (noted, refl)
scene_fault r r' before after old fault.Write reads noted = absurd reads
scene_fault r r' before after old fault.Memory reads noted = (noted, refl)
scene_fault r r' before after old fault.SceneText reads noted = (noted, refl)
scene_fault r r' before after old (fault.SceneMissing key client) reads noted = (noted, refl)
scene_fault r r' before after old (fault.SceneKind key client) reads noted = (noted, refl)
scene_fault r r' before after old (fault.SceneValue key client) reads noted = (noted, refl)
scene_fault r r' before after old fault.Torn reads noted = (noted, refl)
scene_fault r r' before after old fault.Range reads noted = (noted, refl)
scene_fault r r' before after old fault.TurnsOut reads noted = (noted, refl)
scene_fault r r' before after old fault.Stopped reads noted = (noted, refl)

pub scene_noted : {R W : Type 0} (r r' : Option (List ℕ)) (before after : Watched R) (old : Watched W) (f : Fault) (result : Result Outcome Fault) → ReadsScene r r' (Err f) → SceneNoted before after (Err f)
    → IsErrAnd result (λ reported. reported ≡ f) → ReportNoted before after old old result
scene_noted r r' before after old f (Ok outcome) reads noted e = absurd e
scene_noted r r' before after old f (Err reported) reads noted e = subst (λ x. ReportNoted before after old old (Err x)) (sym e) (scene_fault r r' before after old f reads noted)

-- the scene has no report
unreported : {R W : Type 0} (before after : Watched R) (old : Watched W) (f : SimFault) → IsCalm before after → ReportNoted before after old old (Err (fault_of_sim f))
unreported before after old (sim.Refused refusal) calm = (calm, refl)
unreported before after old sim.Memory calm = (calm, refl)

pub unreported_noted : {R W : Type 0} (before after : Watched R) (old : Watched W) (f : SimFault) (result : Result Outcome Fault) → IsCalm before after → IsErrAnd result (λ reported. reported ≡ fault_of_sim f)
    → ReportNoted before after old old result
unreported_noted before after old f (Ok outcome) calm e = absurd e
unreported_noted before after old f (Err reported) calm e = subst (λ x. ReportNoted before after old old (Err x)) (sym e) (unreported before after old f calm)

-- the report is written
pub reported_noted : {R W : Type 0} (before after : Watched R) (old new : Watched W) (b : Bool) (end : Result Outcome Fault) → end ≡ (if b then Err fault.TurnsOut else Ok Done)
    → IsCalm before after → IsCalm old new → ReportNoted before after old new end
reported_noted before after old new true end e calm silent = subst (λ x. ReportNoted before after old new x) (sym e) (calm, silent)
reported_noted before after old new false end e calm silent = subst (λ x. ReportNoted before after old new x) (sym e) (calm, silent)

-- the run in threads has a fault
run_fault : {R W : Type 0} (before after : Watched R) (old new : Watched W) (f : RunSceneFault) → IsCalm before after → runs.ReportNoted old new (Err f)
    → ReportNoted before after old new (Err (fault_of_run f))
run_fault before after old new run.Memory calm h = (calm, h)
run_fault before after old new run.Torn calm h = (calm, h)
run_fault before after old new run.Write calm h = (calm, h)
run_fault before after old new run.TurnsOut calm h = (calm, h)
run_fault before after old new run.Stopped calm h = (calm, h)

pub run_noted : {R W : Type 0} (before after : Watched R) (old new : Watched W) (f : RunSceneFault) (result : Result Outcome Fault) → IsCalm before after → runs.ReportNoted old new (Err f)
    → IsErrAnd result (λ reported. reported ≡ fault_of_run f) → ReportNoted before after old new result
run_noted before after old new f (Ok outcome) calm h e = absurd e
run_noted before after old new f (Err reported) calm h e = subst (λ x. ReportNoted before after old new (Err x)) (sym e) (run_fault before after old new f calm h)

-- ---- words that are not read

none_of : {R W : Type 0} (left : R → Option (List ℕ)) (command : ToolCommand) (before : Watched R) (old : Watched W) (f : WordsFault)
    → CommandNoted left command before before old old (Err (fault_of_words f))
none_of left Script before old words.Usage = (refl, refl)
none_of left Script before old words.Memory = (refl, λ set. set)
none_of left Check before old words.Usage = (refl, refl)
none_of left Check before old words.Memory = (refl, refl)
none_of left Sim before old words.Usage = (refl, refl)
none_of left Sim before old words.Memory = (refl, refl)
none_of left Run before old words.Usage = (refl, refl)
none_of left Run before old words.Memory = (refl, refl)

pub words_noted : {R W : Type 0} (left : R → Option (List ℕ)) (tool : Option Tool) (before : Watched R) (old : Watched W) (f : WordsFault) (result : Result Outcome Fault)
    → IsErrAnd result (λ reported. reported ≡ fault_of_words f) → WordsNoted left tool before before old old result
words_noted left None before old f result e = (refl, refl)
words_noted left (Some tool) before old f (Ok outcome) e = absurd e
words_noted left (Some tool) before old f (Err reported) e = subst (λ x. CommandNoted left tool.command before before old old (Err x)) (sym e) (none_of left tool.command before old f)
