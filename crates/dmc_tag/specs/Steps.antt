-- What a scheduler promises of each call.
use Rattle.std.specs.Prelude.{◌≡◌, ℕ, Bool, true, false, IsTrue, Option, Some, None, List, IsOk, slice_get}
use Rattle.std.specs.Option.{option_map_or}
use Rattle.dmc_types.specs.declared.command.Command.{Command}
use Rattle.dmc_types.specs.declared.command.Command.TheVariants.{Register, Update, Add, Pull, Remove, Cancel, Clean}
use Rattle.dmc_tag.specs.Tag.{Tagging}
use Rattle.dmc_tag.specs.State.{State}
use Rattle.dmc_tag.specs.Step.{outcome, step}
use Rattle.dmc_tag.specs.Replay.{replies_of, state_after}
use Rattle.dmc_tag.specs.declared.reply.Reply.{Reply}

-- the commands that may allocate: no other returns an allocation failure
abbrev pub may_grow : Command → Bool
may_grow (Register client info at) = true
may_grow (Update client info at) = false
may_grow (Add client token params at) = true
may_grow (Pull at) = false
may_grow (Remove client) = false
may_grow (Cancel client token counting) = false
may_grow (Clean at) = false

-- whether the command at an index is one of these
abbrev pub grows_at : List Command → ℕ → Bool
grows_at commands i = option_map_or may_grow (slice_get commands i) false

-- A call is one step of the rules: its reply and the state after it. Or an allocation failed: then the command is one that may
-- allocate, step refuses nothing, there is no reply, and the state is as it was.
abbrev pub Steps : {T : Type 0} → Tagging T → State T → State T → Command → Option (Reply T) → Type 0
Steps ops old new command (Some reply) = (new, reply) ≡ step ops old command
Steps ops old new command None = IsTrue (may_grow command) × IsOk (outcome ops old command) × (new ≡ old)

-- the replies are those of step, command after command, and so is the state after them
abbrev pub Runs : {T : Type 0} → Tagging T → State T → State T → List Command → List (Reply T) → Type 0
Runs ops old new commands replies = (replies ≡ replies_of ops old commands) × (new ≡ state_after ops old commands)
