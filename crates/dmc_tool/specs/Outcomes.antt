-- The exit status of each way to end without a fault.
use Rattle.std.specs.Prelude.{ℕ}
use Rattle.dmc_check.specs.declared.check.Verdict.{Verdict}
use Rattle.dmc_check.specs.declared.check.Verdict.TheVariants as verdict
use Rattle.dmc_tool.specs.declared.outcome.Outcome.{Outcome}
use Rattle.dmc_tool.specs.declared.outcome.Outcome.TheVariants.{Done, Differs}

abbrev pub status_of : Outcome → ℕ
status_of Done = 0
status_of Differs = 3

-- how a check ends
abbrev pub outcome_of : Verdict → Outcome
outcome_of verdict.Replays = Done
outcome_of (verdict.Differs index) = Differs
