-- The result of a pull with the caller's test.
use Rattle.std.specs.Prelude.{◌≡◌, ℕ, Bool, true, false, Result, Ok, Err, Some}
use Rattle.dmc_types.specs.declared.command.Command.TheVariants.{Pull}
use Rattle.dmc_types.specs.declared.config.PhaseType.{PhaseType}
use Rattle.dmc_types.specs.declared.ids.ClientId.{ClientId}
use Rattle.dmc_tag.specs.Answers.{pull_reply}
use Rattle.dmc_tag.specs.State.{State}
use Rattle.dmc_tag.specs.Step.{step}
use Rattle.dmc_tag.specs.Steps.{Steps}
use Rattle.dmc_tag.specs.Tag.{Tagging}
use Rattle.dmc_tag.specs.declared.reply.Pulled.{Pulled}
use Rattle.dmc_tag.specs.declared.reply.Reply.{Reply}
use Rattle.dmc_tag.specs.declared.reply.Reply.TheVariants.{Registered, Updated, Tagged, Granted, Later, Nothing, Removed, Cleaned, Refused}
use Rattle.dmc_pull.specs.declared.granting.PullFault.{PullFault}
use Rattle.dmc_pull.specs.declared.granting.PullFault.TheVariants as faults

-- A grant passes if the test allows its client and phase; any other reply passes.
abbrev pub is_allowed : {T : Type 0} → (ClientId → PhaseType → Bool) → Reply T → Bool
is_allowed allows Registered = true
is_allowed allows Updated = true
is_allowed allows (Tagged tags) = true
is_allowed allows (Granted client token phase beyond cost) = allows client phase
is_allowed allows (Later m) = true
is_allowed allows Nothing = true
is_allowed allows (Removed count) = true
is_allowed allows (Cleaned idled erased) = true
is_allowed allows (Refused refusal) = true

-- One step whose reply passes the test; or the reply of that step does not pass, and nothing changes.
abbrev pub PullsIf : {T : Type 0} → (ClientId → PhaseType → Bool) → Tagging T → State T → State T → ℕ → Result Pulled PullFault → Type 0
PullsIf {T} allows ops old new at (Ok pulled) = Steps ops old new (Pull at) (Some (pull_reply pulled)) × (is_allowed {T = T} allows (pull_reply pulled) ≡ true)
PullsIf allows ops old new at (Err (faults.Refused refusal)) = Steps ops old new (Pull at) (Some (Refused refusal))
PullsIf allows ops old new at (Err faults.Declined) = (new ≡ old) × (is_allowed allows ((step ops old (Pull at)).1) ≡ false)
