-- Worked examples: the replies that the rules give in whole ticks, computed.
use Rattle.std.specs.Prelude.{ℤ, List}
use Rattle.dmc_types.specs.Values.{Setting}
use Rattle.dmc_types.specs.declared.command.Command.{Command}
use Rattle.dmc_tag.specs.declared.reply.Reply.{Reply}
use Rattle.dmc_tag.specs.Replay.{replies_of}
use Rattle.dmc_tag.specs.State.{opening}
use Rattle.dmc_tick.specs.Tick.{tick_ops}

abbrev pub replies : Setting → List Command → List (Reply ℤ)
replies config commands = replies_of tick_ops (opening tick_ops config) commands
