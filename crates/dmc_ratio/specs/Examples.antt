-- Worked examples: the replies that the rules give in ratio tags, computed.
use Rattle.std.specs.Prelude.{ℕ, ◌-◌, pos, List}
use Rattle.dmc_types.specs.declared.config.AtLimit.TheVariants.{Wait}
use Rattle.dmc_types.specs.declared.command.Command.{Command}
use Rattle.dmc_tag.specs.declared.reply.Reply.{Reply}
use Rattle.dmc_tag.specs.Examples.{ticks_a_second}
use Rattle.dmc_tag.specs.Replay.{replies_of}
use Rattle.dmc_tag.specs.State.{opening}
use Rattle.dmc_ratio.specs.Ratio.{Ratio, lowest_terms, ratio_ops}

-- n/d in lowest terms
infix 20 ◌∕◌
abbrev pub ◌∕◌ : ℕ → ℕ → Ratio
n ∕ d = lowest_terms (pos n) (d - 1)

abbrev pub replies : ℕ → List Command → List (Reply Ratio)
replies hz commands = replies_of ratio_ops (opening ratio_ops (ticks_a_second hz Wait)) commands
