-- Requests whose words are not read, and what is reported.
use Rattle.std.proofs.Common.{◌≡◌, ◌⊎◌, ◌≤◌, ℕ, ◌++◌, ◌∙◌, Bool, true, false, List, [], refl, sym, subst, arith, Option, Some, None, Result, Ok, Err, inl, inr}
use Rattle.std.proofs.lemmas.List.{append-nil}
use Rattle.std.specs.Prelude.{IsErrAnd, option_and_then}
use Rattle.clap.specs.Words.{Text}
use Rattle.dmc_text.specs.Texts.{with_line_end}
use Rattle.dmc_text.specs.Watching.{stream_of}
use Rattle.dmc_text.specs.declared.watched.Watched.{Watched}
use Rattle.dmc_tool.specs.Faults.{fault_of_words, status_of}
use Rattle.dmc_tool.specs.FaultLine.{WritesFault, WritesLines, fault_text}
use Rattle.dmc_tool.specs.Progress.{ShowsProgress}
use Rattle.dmc_tool.specs.Remarks.{WordsRemarks}
use Rattle.dmc_tool.specs.Runs.{Opening, Reports, ReportsFault, RunsAsked, RunsOn, RunsProgram, exit_status}
use Rattle.dmc_tool.specs.Words.{Asked, ask_tool, ask_version, explains, shown_command}
use Rattle.dmc_tool.specs.internal.Reported.{RefusesWords, ReportsRun, RunsReported}
use Rattle.dmc_tool.specs.declared.fault.Fault.{Fault}
use Rattle.dmc_tool.specs.declared.fault.Fault.TheVariants as fault
use Rattle.dmc_tool.specs.declared.outcome.Outcome.{Outcome}
use Rattle.dmc_tool.specs.declared.outcome.Outcome.TheVariants.{Done, Differs}
use Rattle.dmc_tool.specs.declared.words.Tool.{Tool}
use Rattle.dmc_tool.specs.declared.words.ToolCommand.{ToolCommand}
use Rattle.dmc_tool.specs.declared.words.WordsFault.{WordsFault}
use Rattle.dmc_tool.specs.declared.words.WordsFault.TheVariants as words
use Rattle.dmc_tool.proofs.RunLemmas.{words_unread}
use Rattle.dmc_tool.proofs.NoteLemmas.{words_noted}
use Rattle.dmc_tool.proofs.ProgressLemmas.{shows_none}
use Rattle.dmc_tool.proofs.RemarkLemmas.{silent_command}

-- whether progress is shown
abbrev pub shows : Asked → Bool
shows ask_version = false
shows (ask_tool tool file is_explained shows_progress) = shows_progress

-- every status is at most 4
pub status_within : (end : Result Outcome Fault) → exit_status end ≤ 4
status_within (Ok Done) = omega arith
status_within (Ok Differs) = omega arith
status_within (Err fault.Usage) = omega arith
status_within (Err (fault.Line number cause)) = omega arith
status_within (Err fault.Read) = omega arith
status_within (Err fault.Write) = omega arith
status_within (Err fault.Memory) = omega arith
status_within (Err fault.SceneText) = omega arith
status_within (Err (fault.SceneMissing key client)) = omega arith
status_within (Err (fault.SceneKind key client)) = omega arith
status_within (Err (fault.SceneValue key client)) = omega arith
status_within (Err fault.Torn) = omega arith
status_within (Err fault.Range) = omega arith
status_within (Err fault.TurnsOut) = omega arith
status_within (Err fault.Stopped) = omega arith

module _ {I R W : Type 0} (opens : Opening I) (left_of : I → Option (List ℕ)) (left : R → Option (List ℕ)) (held : W → Option (List ℕ)) (before : Watched R) (old : Watched W) where
  -- neither the reader nor the writer is used, and nothing is remarked
  unread_on : (tool : Option Tool) (is_explained : Bool) (fault : WordsFault) (result : Result Outcome Fault) → (fault ≡ words.Usage → tool ≡ None)
      → IsErrAnd result (λ f. f ≡ fault_of_words fault) → WordsRemarks tool is_explained (left (stream_of before)) (left (stream_of before)) result [] []
      → RunsOn left held tool is_explained before before old old result [] []
  unread_on tool is_explained fault result none e silent =
      (words_unread tool (left (stream_of before)) (held (stream_of old)) fault result none e, words_noted left tool before old fault result e, silent)

  -- words that ask for nothing
  pub nothing_runs : (f : Fault) → (f ≡ fault.Usage) ⊎ (f ≡ fault.Memory) → RunsAsked opens left_of left held None before before old old (Err f) [] []
  nothing_runs f (inl usage) = unread_on None false words.Usage (Err f) (λ is. refl) usage refl
  nothing_runs f (inr memory) = unread_on None false words.Memory (Err f) (λ is. refl) memory refl

  -- an allocation failed before the words were read
  pub unread : (asks : Option Asked) → RunsAsked opens left_of left held asks before before old old (Err fault.Memory) [] []
  unread None = nothing_runs fault.Memory (inr refl)
  unread (Some ask_version) = (refl, refl, inr (inr (refl, refl)))
  unread (Some (ask_tool tool None is_explained shows_progress)) =
      unread_on (Some tool) is_explained words.Memory (Err fault.Memory) (λ is. absurd (cc)) refl
      (silent_command (left (stream_of before)) (left (stream_of before)) [] tool.command is_explained (Err fault.Memory) (inr refl))
  unread (Some (ask_tool tool (Some name) is_explained shows_progress)) = (refl, inr (refl, refl, inr refl))

module _ {E : Type 0} (heard : E → Option (List ℕ)) (quiet loud : Watched E) where
  -- a failed allocation has no explanation
  memory_explained : (is_explained : Bool) → WritesFault heard fault.Memory quiet loud → Reports heard is_explained fault.Memory [] quiet loud
  memory_explained false h = h
  memory_explained true h =
      subst (λ bytes. WritesLines heard bytes quiet loud)
      (sym (append-nil (with_line_end (fault_text fault.Memory) ++ []) ∙ append-nil (with_line_end (fault_text fault.Memory)))) h

  pub memory_reported : (written : List ToolCommand) (words : List Text) (asks : Option Asked) → WritesFault heard fault.Memory quiet loud
      → ReportsFault heard written words asks fault.Memory [] quiet loud
  memory_reported written words None h = h
  memory_reported written words (Some asks) h = memory_explained (explains asks) h

  -- a run that is reported is one of the program
  pub is_run : {I R W : Type 0} (opens : Opening I) (left_of : I → Option (List ℕ)) (left : R → Option (List ℕ)) (held : W → Option (List ℕ)) (before after : Watched R) (old new : Watched W)
      (written : List ToolCommand) (words : List Text) (asks : Asked) (status : ℕ) → RunsReported opens left_of left held heard asks before after old new quiet loud status
      → RunsProgram opens left_of left held heard written words (Some asks) before after old new quiet loud status
  is_run opens left_of left held before after old new written words asks status h =
      by_end h.end h.remarks h.shown h.runs h.shows h.reports h.status_is
    where
      by_end : (end : Result Outcome Fault) (remarks : List ℕ) (shown : Watched E) → RunsAsked opens left_of left held (Some asks) before after old new end [] remarks
          → ShowsProgress heard (shown_command asks) quiet shown → ReportsRun heard asks end remarks shown loud → status ≡ exit_status end → RunsProgram opens left_of left held heard written words (Some asks) before after old new quiet loud status
      by_end (Ok outcome) remarks shown runs shows reports is = record { end = Ok outcome; remarks = remarks; shown = shown; runs = runs; shows = shows; reports = reports; status_is = is }
      by_end (Err f) remarks shown runs shows reports is = record { end = Err f; remarks = remarks; shown = shown; runs = runs; shows = shows; reports = reports; status_is = is }

  module _ {I R W : Type 0} (opens : Opening I) (left_of : I → Option (List ℕ)) (left : R → Option (List ℕ)) (held : W → Option (List ℕ)) (before : Watched R) (old : Watched W)
      (written : List ToolCommand) (words : List Text) (status : ℕ) where
    -- words that ask for nothing are refused
    pub refused_run : (asks : Option Asked) → asks ≡ None → RefusesWords heard written words quiet loud status
        → RunsProgram opens left_of left held heard written words asks before before old old quiet loud status
    refused_run None none (f, is, reports, status_is) =
        record { end = Err f; remarks = []; shown = quiet; runs = nothing_runs opens left_of left held before old f is; shows = refl; reports = reports; status_is = status_is }
    refused_run (Some asks) none h = absurd (cc)

    -- an allocation failed while the words were read
    pub unread_run : (asks : Option Asked) → WritesFault heard fault.Memory quiet loud → status ≡ status_of fault.Memory
        → RunsProgram opens left_of left held heard written words asks before before old old quiet loud status
    unread_run asks h is = record {
      end = Err fault.Memory;
      remarks = [];
      shown = quiet;
      runs = unread opens left_of left held before old asks;
      shows = shows_none heard (option_and_then shown_command asks) quiet;
      reports = memory_reported written words asks h;
      status_is = is;
    }
