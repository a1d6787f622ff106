-- One run of the program, by what its words ask for.
use Rattle.std.specs.Prelude.{◌≡◌, ◌⊎◌, ◌==◌, ℕ, ℤ, Bool, true, false, slice_get, List, [], ◌∷◌, ◌++◌, codes, Option, Some, None, Result, Ok, Err, ⊤, if◌then◌else◌, option_and_then}
use Rattle.std.specs.Io.KnownBytes.{Keeps}
use Rattle.dmc_types.specs.declared.config.TagKind.{TagKind}
use Rattle.dmc_types.specs.declared.config.TagKind.TheVariants as kinds
use Rattle.dmc_tick.specs.Tick.{tick, tick_ops}
use Rattle.dmc_ratio.specs.Ratio.{Ratio, ratio_ops}
use Rattle.dmc_text.specs.declared.script.ScriptFault.{ScriptFault}
use Rattle.dmc_text.specs.RatioText.{ratio_if_lowest}
use Rattle.dmc_text.specs.Replies.{in_ticks, tag_text}
use Rattle.dmc_text.specs.Texts.{RunsAs, with_line_end}
use Rattle.dmc_text.specs.Watching.{stream_of, failed}
use Rattle.dmc_text.specs.declared.watched.Watched.{Watched}
use Rattle.dmc_check.specs.declared.check.Verdict.{Verdict}
use Rattle.dmc_check.specs.EventTexts.{ChecksAs}
use Rattle.dmc_tool.specs.declared.fault.Fault.{Fault}
use Rattle.dmc_tool.specs.declared.fault.Fault.TheVariants.{Usage, Read, Write, Memory}
use Rattle.dmc_tool.specs.declared.outcome.Outcome.{Outcome}
use Rattle.dmc_tool.specs.declared.outcome.Outcome.TheVariants.{Done}
use Rattle.dmc_tool.specs.declared.words.Tool.{Tool}
use Rattle.dmc_tool.specs.declared.words.ToolCommand.{ToolCommand}
use Rattle.dmc_tool.specs.declared.words.ToolCommand.TheVariants.{Script, Check, Sim, Run}
use Rattle.dmc_tool.specs.Faults as faults
use Rattle.dmc_tool.specs.Outcomes as outcomes
use Rattle.dmc_tool.specs.Notes.{WordsNoted}
use Rattle.dmc_tool.specs.SceneRuns.{RunsRun}
use Rattle.dmc_tool.specs.Sims.{RunsSim}
use Rattle.dmc_tool.specs.Explanations.{explanation, word_explanation}
use Rattle.dmc_tool.specs.FaultLine.{Sends, WritesFault, WritesLines, fault_text}
use Rattle.dmc_tool.specs.Progress.{ShowsProgress}
use Rattle.dmc_tool.specs.Remarks.{WordsRemarks, WritesRemarks}
use Rattle.dmc_tool.specs.Words.{Asked, IsLongestPart, ask_tool, ask_version, explains, has_explain, shown_command}
use Rattle.clap.specs.Words.{Text}
use Rattle.dmc_tool.specs.declared.version.TheConstants.{VERSION}

-- ---- tags of a kind

-- the tick of a whole number
abbrev pub tick_of : ℤ → ℕ → Option ℤ
tick_of n d = if d == 1 then tick n else None

abbrev pub ratio_text : Ratio → List ℕ
ratio_text a = tag_text (λ r. r.numer) (λ r. r.denom) a

-- what a script reads and writes on tags of this kind
abbrev pub RunsScript : TagKind → (before after old new : Option (List ℕ)) → Result ⊤ ScriptFault → Type 0
RunsScript kinds.Tick before after old new ended = RunsAs tick_ops in_ticks before after old new ended
RunsScript kinds.Ratio before after old new ended = RunsAs ratio_ops ratio_text before after old new ended

-- what a check reads and writes on tags of this kind
abbrev pub ChecksEvents : TagKind → (before after old new : Option (List ℕ)) → Result Verdict ScriptFault → Type 0
ChecksEvents kinds.Tick before after old new ended = ChecksAs tick_ops tick_of before after old new ended
ChecksEvents kinds.Ratio before after old new ended = ChecksAs ratio_ops ratio_if_lowest before after old new ended

-- ---- how a run ends

abbrev pub end_of_script : Result ⊤ ScriptFault → Result Outcome Fault
end_of_script (Ok x) = Ok Done
end_of_script (Err fault) = Err (faults.fault_of_script fault)

abbrev pub end_of_check : Result Verdict ScriptFault → Result Outcome Fault
end_of_check (Ok verdict) = Ok (outcomes.outcome_of verdict)
end_of_check (Err fault) = Err (faults.fault_of_script fault)

-- the exit status of each end
abbrev pub exit_status : Result Outcome Fault → ℕ
exit_status (Ok outcome) = outcomes.status_of outcome
exit_status (Err fault) = faults.status_of fault

-- ---- what a run does

-- what the run of a command reads and writes, and how it ends
abbrev pub RunsCommand : ToolCommand → TagKind → (before after old new : Option (List ℕ)) → Result Outcome Fault → Type 0
RunsCommand Script tags before after old new end = (ended : Result ⊤ ScriptFault) × RunsScript tags before after old new ended × (end ≡ end_of_script ended)
RunsCommand Check tags before after old new end = (ended : Result Verdict ScriptFault) × ChecksEvents tags before after old new ended × (end ≡ end_of_check ended)
RunsCommand Sim tags before after old new end = RunsSim before after old new end
RunsCommand Run tags before after old new end = RunsRun before after old new end

-- Words that ask for no tool: nothing is read, nothing is written, and the fault is Usage, or Memory, which reading the words may
-- need. Words that ask for one: what its command does.
abbrev pub RunsWords : Option Tool → (before after old new : Option (List ℕ)) → Result Outcome Fault → Type 0
RunsWords None before after old new end = Keeps before after × Keeps old new × ((end ≡ Err Usage) ⊎ (end ≡ Err Memory))
RunsWords (Some tool) before after old new end = RunsCommand tool.command tool.tags before after old new end

-- what a tool, or none, reads and writes by the end of its run, whether its streams fail, and what is remarked
abbrev pub RunsOn : {R W : Type 0} → (R → Option (List ℕ)) → (W → Option (List ℕ)) → Option Tool → Bool → (before after : Watched R) → (old new : Watched W) → Result Outcome Fault
    → (blank remarks : List ℕ) → Type 0
RunsOn left held tool is_explained before after old new end blank remarks =
    RunsWords tool (left (stream_of before)) (left (stream_of after)) (held (stream_of old)) (held (stream_of new)) end
    × WordsNoted left tool before after old new end
    × WordsRemarks tool is_explained (left (stream_of before)) (left (stream_of after)) end blank remarks

-- Which files can be opened: whether this is the one of a name, as it was opened, and whether the one of a name can't be opened.
pub record Opening (I : Type 0) : Type 1 where
  pub is_opened : List ℕ → I → Type 0
  pub is_refused : List ℕ → Type 0

-- A tool runs on the file of a name. If it can't be opened, that is reported as Read, and nothing is written, as at a failed
-- allocation.
abbrev pub RunsOnFile : {I W : Type 0} → Opening I → (I → Option (List ℕ)) → (W → Option (List ℕ)) → Tool → Bool → List ℕ → (old new : Watched W) → Result Outcome Fault
    → (blank remarks : List ℕ) → Type 0
RunsOnFile {I} opens left held tool is_explained name old new end blank remarks =
    ((before : Watched I) × (after : Watched I) × opens.is_opened name (stream_of before) × (failed before ≡ false)
    × RunsOn left held (Some tool) is_explained before after old new end blank remarks)
    ⊎ ((new ≡ old) × (remarks ≡ blank) × ((opens.is_refused name × (end ≡ Err Read)) ⊎ (end ≡ Err Memory)))

-- the line of the version
abbrev pub version_line : List ℕ
version_line = codes "dmclock " ++ (VERSION.now ++ 10 ∷ [])

-- The version is written, or the writer fails after a first part of it, or an allocation failed before.
abbrev pub WritesVersion : {W : Type 0} → (W → Option (List ℕ)) → (old new : Watched W) → Result Outcome Fault → Type 0
WritesVersion held old new end =
    ((end ≡ Ok Done) × Sends held version_line old new true)
    ⊎ (((end ≡ Err Write) × Sends held version_line old new false)
    ⊎ ((end ≡ Err Memory) × (new ≡ old)))

-- What is asked for runs, by its end. The first arguments say which files can be opened, which bytes a file and the reader have
-- left, and which the writer has taken; the last are the remarks before and after.
abbrev pub RunsAsked : {I R W : Type 0} → Opening I → (I → Option (List ℕ)) → (R → Option (List ℕ)) → (W → Option (List ℕ)) → Option Asked
    → (before after : Watched R) → (old new : Watched W) → Result Outcome Fault → (blank remarks : List ℕ) → Type 0
RunsAsked opens left_of left held None before after old new end blank remarks = RunsOn left held None false before after old new end blank remarks
RunsAsked opens left_of left held (Some ask_version) before after old new end blank remarks = (after ≡ before) × (remarks ≡ blank) × WritesVersion held old new end
RunsAsked opens left_of left held (Some (ask_tool tool None is_explained shows_progress)) before after old new end blank remarks =
    RunsOn left held (Some tool) is_explained before after old new end blank remarks
RunsAsked opens left_of left held (Some (ask_tool tool (Some name) is_explained shows_progress)) before after old new end blank remarks =
    (after ≡ before) × RunsOnFile opens left_of held tool is_explained name old new end blank remarks

-- ---- what is reported

-- a fault is reported, and if that is asked for, explained, before the remarks
abbrev pub Reports : {E : Type 0} → (E → Option (List ℕ)) → Bool → Fault → List ℕ → (quiet loud : Watched E) → Type 0
Reports heard false fault remarks quiet loud = WritesFault heard fault quiet loud
Reports heard true fault remarks quiet loud = WritesLines heard ((with_line_end (fault_text fault) ++ explanation fault) ++ remarks) quiet loud

-- a usage fault is reported, and explained if the words ask for that: by the first that is not as in the usage
abbrev pub ReportsUsage : {E : Type 0} → (E → Option (List ℕ)) → List ToolCommand → List Text → Bool → (quiet loud : Watched E) → Type 0
ReportsUsage heard written words false quiet loud = WritesFault heard Usage quiet loud
ReportsUsage heard written words true quiet loud =
    (count : ℕ) × IsLongestPart written words count × WritesLines heard (with_line_end (fault_text Usage) ++ word_explanation (slice_get words count)) quiet loud

-- the fault of words that ask for nothing is reported
abbrev pub ReportsWords : {E : Type 0} → (E → Option (List ℕ)) → List ToolCommand → List Text → Fault → (quiet loud : Watched E) → Type 0
ReportsWords heard written words Usage quiet loud = ReportsUsage heard written words (has_explain words) quiet loud
ReportsWords heard written words fault quiet loud = WritesFault heard fault quiet loud

abbrev pub ReportsFault : {E : Type 0} → (E → Option (List ℕ)) → List ToolCommand → List Text → Option Asked → Fault → List ℕ → (quiet loud : Watched E) → Type 0
ReportsFault heard written words None fault remarks quiet loud = ReportsWords heard written words fault quiet loud
ReportsFault heard written words (Some asks) fault remarks quiet loud = Reports heard (explains asks) fault remarks quiet loud

-- a run without a fault writes the remarks alone
abbrev pub ReportsEnd : {E : Type 0} → (E → Option (List ℕ)) → List ToolCommand → List Text → Option Asked → Result Outcome Fault → List ℕ → (quiet loud : Watched E) → Type 0
ReportsEnd heard written words asks (Ok outcome) remarks quiet loud = WritesRemarks heard remarks quiet loud
ReportsEnd heard written words asks (Err fault) remarks quiet loud = ReportsFault heard written words asks fault remarks quiet loud

-- ---- a run of the program

-- What the words ask for runs, by its exit status: what is read and written, whether its streams fail, what is remarked on a scene
-- and which progress is shown if that is asked for, and what is reported behind it. The first arguments are those of RunsAsked, and
-- which bytes the fault writer has taken.
pub record RunsProgram {I R W E : Type 0} (opens : Opening I) (left_of : I → Option (List ℕ)) (left : R → Option (List ℕ)) (held : W → Option (List ℕ))
    (heard : E → Option (List ℕ)) (written : List ToolCommand) (words : List Text) (asks : Option Asked) (before after : Watched R) (old new : Watched W)
    (quiet loud : Watched E) (status : ℕ) : Type 0 where
  pub end : Result Outcome Fault
  pub remarks : List ℕ
  pub shown : Watched E
  pub runs : RunsAsked opens left_of left held asks before after old new end [] remarks
  pub shows : ShowsProgress heard (option_and_then shown_command asks) quiet shown
  pub reports : ReportsEnd heard written words asks end remarks shown loud
  pub status_is : status ≡ exit_status end
