-- How far a text is checked, and what is written of it.
use Rattle.std.specs.Prelude.{◌≡◌, ℕ, true, List, Option, Some, None, Result, Ok, Err}
use Rattle.std.specs.Io.KnownBytes.{Appends, Keeps}
use Rattle.dmc_text.specs.declared.script.ScriptFault.{ScriptFault}
use Rattle.dmc_text.specs.declared.script.ScriptFault.TheVariants as faults
use Rattle.dmc_text.specs.Texts.{AppendsSome}
use Rattle.dmc_text.specs.Watching.{failed, IsCalm}
use Rattle.dmc_text.specs.declared.watched.Watched.{Watched}
use Rattle.dmc_check.specs.declared.check.Verdict.{Verdict}
use Rattle.dmc_check.specs.declared.replay.Replay.{Replay}
use Rattle.dmc_check.specs.declared.text.Checked.{Checked}
use Rattle.dmc_check.specs.EventTexts.{verdict_text}
use Rattle.dmc_check.specs.internal.Verdicts.{verdict_of}

-- the result of a replay
abbrev pub IsChecked : {T : Type 0} → Option (Replay T) → Checked → Type 0
IsChecked None checked = ⊥
IsChecked (Some replay) checked = (checked.verdict ≡ verdict_of replay.difference) × (checked.events ≡ replay.events)

-- the line of a verdict is written, or a first part of it, or nothing
abbrev pub WritesVerdict : (old new : Option (List ℕ)) → Checked → Result Verdict ScriptFault → Type 0
WritesVerdict old new checked (Ok verdict) = (verdict ≡ checked.verdict) × Appends old new (verdict_text checked.verdict checked.events)
WritesVerdict old new checked (Err faults.Write) = AppendsSome old new (verdict_text checked.verdict checked.events)
WritesVerdict old new checked (Err faults.Memory) = Keeps old new
WritesVerdict old new checked (Err faults.Read) = ⊥
WritesVerdict old new checked (Err (faults.Line n cause)) = ⊥

-- Write is reported exactly if the writer failed.
abbrev pub VerdictNoted : {W : Type 0} → (old new : Watched W) → Result Verdict ScriptFault → Type 0
VerdictNoted old new (Ok verdict) = IsCalm old new
VerdictNoted old new (Err faults.Write) = failed new ≡ true
VerdictNoted old new (Err fault) = IsCalm old new
