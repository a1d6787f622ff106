-- The plain state of a queue whose tags are of either type, and the reply to each command.
use Rattle.std.specs.Prelude.{◌≡◌, ℕ, ℤ, length, Option, Some, None, IsOk, IsTrue}
use Rattle.std.specs.Option.{option_map}
use Rattle.dmc_types.specs.Values.{Setting}
use Rattle.dmc_types.specs.declared.config.TagKind.{TagKind}
use Rattle.dmc_types.specs.declared.config.TagKind.TheVariants as kinds
use Rattle.dmc_types.specs.declared.command.Command.{Command}
use Rattle.dmc_tag.specs.Tag.{Fraction, Tagging}
use Rattle.dmc_tag.specs.State.{State, opening, queued_requests}
use Rattle.dmc_tag.specs.Step.{outcome, step}
use Rattle.dmc_tag.specs.Steps.{may_grow}
use Rattle.dmc_tag.specs.declared.reply.Tags.{Tags}
use Rattle.dmc_tag.specs.declared.reply.Reply.{Reply}
use Rattle.dmc_tag.specs.declared.reply.Reply.TheVariants.{Registered, Updated, Tagged, Granted, Later, Nothing, Removed, Cleaned, Refused}
use Rattle.dmc_tick.specs.Tick.{tick_ops, tick_fraction}
use Rattle.dmc_ratio.specs.Ratio.{Ratio, ratio_ops, ratio_fraction}

-- a plain state, by its tags
pub data AnyState : Type 0 where
  ticks : State ℤ → AnyState
  ratios : State Ratio → AnyState

-- the opening state with tags of this kind
abbrev pub opening_with : TagKind → Setting → AnyState
opening_with kinds.Tick config = ticks (opening tick_ops config)
opening_with kinds.Ratio config = ratios (opening ratio_ops config)

-- how many clients are registered
abbrev pub clients_in : AnyState → ℕ
clients_in (ticks s) = length s.clients
clients_in (ratios s) = length s.clients

-- how many requests are queued
abbrev pub requests_in : AnyState → ℕ
requests_in (ticks s) = length (queued_requests s.clients)
requests_in (ratios s) = length (queued_requests s.clients)

-- ---- replies

abbrev pub tags_in_fractions : {T : Type 0} → (T → Fraction) → Tags T → Tags Fraction
tags_in_fractions fraction tags = record { r = option_map fraction tags.r; l = fraction tags.l; p = fraction tags.p }

-- a reply, with the fraction that each tag represents
abbrev pub in_fractions : {T : Type 0} → (T → Fraction) → Reply T → Reply Fraction
in_fractions fraction Registered = Registered
in_fractions fraction Updated = Updated
in_fractions fraction (Tagged tags) = Tagged (tags_in_fractions fraction tags)
in_fractions fraction (Granted client token phase beyond cost) = Granted client token phase beyond cost
in_fractions fraction (Later due) = Later due
in_fractions fraction Nothing = Nothing
in_fractions fraction (Removed count) = Removed count
in_fractions fraction (Cleaned idled erased) = Cleaned idled erased
in_fractions fraction (Refused refusal) = Refused refusal

-- ---- one command

-- The state is the one after the step, and the reply is that of step, in fractions. Or an allocation failed: then the command is
-- one that may allocate, step refuses nothing, there is no reply, and the state is as it was.
abbrev pub Shows : {T : Type 0} → Tagging T → (T → Fraction) → State T → State T → Command → Option (Reply Fraction) → Type 0
Shows ops fraction old new command (Some reply) = (reply ≡ in_fractions fraction ((step ops old command).1)) × (new ≡ (step ops old command).0)
Shows ops fraction old new command None = IsTrue (may_grow command) × IsOk (outcome ops old command) × (new ≡ old)

-- the step of a queue with tags of either type, which it keeps
abbrev pub AnySteps : AnyState → AnyState → Command → Option (Reply Fraction) → Type 0
AnySteps (ticks old) (ticks new) command reply = Shows tick_ops tick_fraction old new command reply
AnySteps (ratios old) (ratios new) command reply = Shows ratio_ops ratio_fraction old new command reply
AnySteps _ _ command reply = ⊥
