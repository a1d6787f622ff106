-- The commands that are events of a cluster as they are.
use Rattle.std.specs.Prelude.{◌≡◌}
use Rattle.dmc_types.specs.declared.ids.ServerId.{ServerId}
use Rattle.dmc_types.specs.declared.command.Command.{Command}
use Rattle.dmc_types.specs.declared.command.Command.TheVariants as commands
use Rattle.dmc_core.specs.declared.event.CoreEvent.{CoreEvent}
use Rattle.dmc_core.specs.declared.event.CoreEvent.TheVariants as events

-- the event has a server carry out this command
abbrev pub IsServed : ServerId → Command → CoreEvent → Type 0
IsServed server (commands.Update client info at) event = event ≡ events.Update server client info at
IsServed server (commands.Clean at) event = event ≡ events.Clean server at
IsServed server command event = ⊥
