-- A run and what it reports, part by part.
use Rattle.std.specs.Prelude.{◌≡◌, ◌⊎◌, ℕ, List, [], Option, Some, Result, Ok, Err}
use Rattle.clap.specs.Words.{Text}
use Rattle.dmc_text.specs.declared.watched.Watched.{Watched}
use Rattle.dmc_tool.specs.Faults.{status_of}
use Rattle.dmc_tool.specs.Progress.{ShowsProgress}
use Rattle.dmc_tool.specs.Remarks.{WritesRemarks}
use Rattle.dmc_tool.specs.Runs.{Opening, Reports, ReportsWords, RunsAsked, exit_status}
use Rattle.dmc_tool.specs.Words.{Asked, explains, shown_command}
use Rattle.dmc_tool.specs.declared.fault.Fault.{Fault}
use Rattle.dmc_tool.specs.declared.fault.Fault.TheVariants.{Usage, Memory}
use Rattle.dmc_tool.specs.declared.outcome.Outcome.{Outcome}
use Rattle.dmc_tool.specs.declared.words.ToolCommand.{ToolCommand}

-- words that ask for nothing are reported, or that an allocation failed
abbrev pub RefusesWords : {E : Type 0} → (E → Option (List ℕ)) → List ToolCommand → List Text → (quiet loud : Watched E) → ℕ → Type 0
RefusesWords heard written words quiet loud status =
    (fault : Fault) × ((fault ≡ Usage) ⊎ (fault ≡ Memory)) × ReportsWords heard written words fault quiet loud × (status ≡ status_of fault)

-- the end of a run is reported
abbrev pub ReportsRun : {E : Type 0} → (E → Option (List ℕ)) → Asked → Result Outcome Fault → List ℕ → (quiet loud : Watched E) → Type 0
ReportsRun heard asks (Ok outcome) remarks quiet loud = WritesRemarks heard remarks quiet loud
ReportsRun heard asks (Err fault) remarks quiet loud = Reports heard (explains asks) fault remarks quiet loud

-- what is asked for runs, its progress is shown if that is asked for, and its end is reported
pub record RunsReported {I R W E : Type 0} (opens : Opening I) (left_of : I → Option (List ℕ)) (left : R → Option (List ℕ)) (held : W → Option (List ℕ))
    (heard : E → Option (List ℕ)) (asks : Asked) (before after : Watched R) (old new : Watched W) (quiet loud : Watched E) (status : ℕ) : Type 0 where
  pub end : Result Outcome Fault
  pub remarks : List ℕ
  pub shown : Watched E
  pub runs : RunsAsked opens left_of left held (Some asks) before after old new end [] remarks
  pub shows : ShowsProgress heard (shown_command asks) quiet shown
  pub reports : ReportsRun heard asks end remarks shown loud
  pub status_is : status ≡ exit_status end
