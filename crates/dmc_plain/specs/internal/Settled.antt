-- The new state and the reply of an outcome.
use Rattle.std.specs.Prelude.{◌≡◌, Option, Some, None}
use Rattle.dmc_tag.specs.State.{State}
use Rattle.dmc_tag.specs.Rules.{Outcome}
use Rattle.dmc_tag.specs.Step.{answer_of}
use Rattle.dmc_tag.specs.declared.reply.Reply.{Reply}

-- the new state and the reply are those of the outcome
abbrev pub Settles : {T : Type 0} → State T → State T → Outcome T → Option (Reply T) → Type 0
Settles old new result None = ⊥
Settles old new result (Some reply) = (new, reply) ≡ answer_of old result
