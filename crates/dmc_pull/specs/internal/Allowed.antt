-- The result of a grant with the caller's test.
use Rattle.std.specs.Prelude.{◌≡◌, Bool, true, false, Result, Ok, Err, Some}
use Rattle.dmc_types.specs.declared.config.PhaseType.{PhaseType}
use Rattle.dmc_types.specs.declared.ids.ClientId.{ClientId}
use Rattle.dmc_tag.specs.Answers.{pull_reply}
use Rattle.dmc_tag.specs.Rules.{Outcome}
use Rattle.dmc_tag.specs.State.{State}
use Rattle.dmc_tag.specs.Step.{answer_of}
use Rattle.dmc_tag.specs.declared.reply.Pulled.{Pulled}
use Rattle.dmc_tag.specs.declared.reply.Reply.TheVariants.{Refused}
use Rattle.dmc_pull.specs.internal.Choice.{Settles}
use Rattle.dmc_pull.specs.declared.granting.PullFault.{PullFault}
use Rattle.dmc_pull.specs.declared.granting.PullFault.TheVariants as faults
use Rattle.dmc_pull.specs.Allowed.{is_allowed}

-- the result and the state of a call are those of the outcome, or the test does not allow the grant and nothing changes
abbrev pub SettlesIf : {T : Type 0} → (ClientId → PhaseType → Bool) → State T → State T → Outcome T → Result Pulled PullFault → Type 0
SettlesIf {T} allows old new outcome (Ok pulled) = Settles old new outcome (Some (pull_reply pulled)) × (is_allowed {T = T} allows (pull_reply pulled) ≡ true)
SettlesIf allows old new outcome (Err (faults.Refused refusal)) = Settles old new outcome (Some (Refused refusal))
SettlesIf allows old new outcome (Err faults.Declined) = (new ≡ old) × (is_allowed allows ((answer_of old outcome).1) ≡ false)
