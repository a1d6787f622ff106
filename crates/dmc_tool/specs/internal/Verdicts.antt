-- The verdict at a place.
use Rattle.std.specs.Prelude.{ℕ, List, slice_index_or}
use Rattle.dmc_types.specs.Values.{Setting}
use Rattle.dmc_tag.specs.Tag.{Tagging}
use Rattle.dmc_check.specs.Verdicts.{IsVerdict}
use Rattle.dmc_check.specs.declared.check.Verdict.{Verdict}
use Rattle.dmc_settle.specs.declared.report.ServerReport.{ServerReport}

-- on the history of the server at an index
abbrev pub IsVerdictAt : {T : Type 0} → Tagging T → Setting → List (ServerReport T) → ℕ → Verdict → Type 0
IsVerdictAt {T} ops config ss place v = (s : ServerReport T) → IsVerdict ops config (slice_index_or ss place s).history.events v
