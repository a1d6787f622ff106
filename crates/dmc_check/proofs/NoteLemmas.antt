-- The notes of the streams at the end of a check.
use Rattle.std.proofs.Common.{ℕ, List, ◌∙◌, Option, Result, Ok, Err}
use Rattle.std.specs.Prelude.{⊤}
use Rattle.dmc_text.specs.declared.script.ScriptFault.{ScriptFault}
use Rattle.dmc_text.specs.declared.script.ScriptFault.TheVariants as faults
use Rattle.dmc_text.specs.declared.watched.Watched.{Watched}
use Rattle.dmc_text.specs.Watching.{IsCalm, EndsNoted}
use Rattle.dmc_check.specs.declared.check.Verdict.{Verdict}
use Rattle.dmc_check.specs.declared.text.Checked.{Checked}
use Rattle.dmc_check.specs.internal.Checking.{WritesVerdict, VerdictNoted}

module _ {R W : Type 0} (left : R → Option (List ℕ)) where
  -- the walk failed
  pub notes_early : (before after : Watched R) (old new : Watched W) (fault : ScriptFault) → EndsNoted {X = ⊤} left 0 before after old new (Err fault)
      → EndsNoted {X = Verdict} left 0 before after old new (Err fault)
  notes_early before after old new (faults.Line n cause) h = h
  notes_early before after old new faults.Read h = h
  notes_early before after old new faults.Write h = h
  notes_early before after old new faults.Memory h = h

  -- the walk came to the end, and then the verdict is written
  pub verdict_noted : (w w' : Option (List ℕ)) (before after : Watched R) (old middle new : Watched W) (checked : Checked) (result : Result Verdict ScriptFault)
      → IsCalm before after → IsCalm old middle → WritesVerdict w w' checked result → VerdictNoted middle new result → EndsNoted left 0 before after old new result
  verdict_noted w w' before after old middle new checked (Ok verdict) calm silent writes noted = (calm, noted ∙ silent)
  verdict_noted w w' before after old middle new checked (Err (faults.Line n cause)) calm silent writes noted = absurd writes
  verdict_noted w w' before after old middle new checked (Err faults.Read) calm silent writes noted = absurd writes
  verdict_noted w w' before after old middle new checked (Err faults.Write) calm silent writes noted = (calm, noted)
  verdict_noted w w' before after old middle new checked (Err faults.Memory) calm silent writes noted = (calm, noted ∙ silent)
