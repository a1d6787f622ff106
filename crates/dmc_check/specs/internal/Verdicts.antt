-- The verdict on a list of events.
use Rattle.std.specs.Prelude.{◌≡◌, ◌↔◌, ℕ, Bool, IsTrue, Option, Some, None}
use Rattle.dmc_tag.specs.Tag.{Tagging}
use Rattle.dmc_tag.specs.State.{State}
use Rattle.dmc_tag.specs.Step.{step}
use Rattle.dmc_tag.specs.declared.event.Event.{Event}
use Rattle.dmc_check.specs.declared.check.Verdict.{Verdict}
use Rattle.dmc_check.specs.declared.check.Verdict.TheVariants.{Replays, Differs}

-- ---- the replayer

abbrev pub verdict_of : Option ℕ → Verdict
verdict_of None = Replays
verdict_of (Some i) = Differs i

-- one event more: whether its reply is that of step, and the state after it
pub record ReplaysNext {T : Type 0} (ops : Tagging T) (old new : State T) (event : Event T) (same : Bool) : Type 0 where
  pub reply : IsTrue same ↔ (event.reply ≡ (step ops old event.command).1)
  pub state : new ≡ (step ops old event.command).0
