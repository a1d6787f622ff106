-- Whole runs: the state and the replies after a list of commands, and whether recorded replies are those.
use Rattle.std.specs.Prelude.{◌≡◌, List, [], ◌∷◌, map, ⊤}
use Rattle.dmc_types.specs.Values.{Setting}
use Rattle.dmc_types.specs.declared.command.Command.{Command}
use Rattle.dmc_tag.specs.Tag.{Tagging}
use Rattle.dmc_tag.specs.State.{State, opening}
use Rattle.dmc_tag.specs.Step.{step}
use Rattle.dmc_tag.specs.declared.reply.Reply.{Reply}
use Rattle.dmc_tag.specs.declared.event.Event.{Event}

-- the state after the commands
abbrev pub state_after : {T : Type 0} → Tagging T → State T → List Command → State T
state_after ops s [] = s
state_after ops s (c ∷ cs) = state_after ops ((step ops s c).0) cs

-- the reply to each command, in order
abbrev pub replies_of : {T : Type 0} → Tagging T → State T → List Command → List (Reply T)
replies_of ops s [] = []
replies_of ops s (c ∷ cs) = (step ops s c).1 ∷ replies_of ops ((step ops s c).0) cs

-- the state after the events' commands, from the opening state on
abbrev pub after : {T : Type 0} → Tagging T → Setting → List (Event T) → State T
after ops config events = state_after ops (opening ops config) (map (λ e. e.command) events)

-- the reply of each event is the one of step, in the state after the events before it
abbrev pub replays_from : {T : Type 0} → Tagging T → State T → List (Event T) → Type 0
replays_from ops s [] = ⊤
replays_from ops s (e ∷ es) = (e.reply ≡ (step ops s e.command).1) × replays_from ops ((step ops s e.command).0) es

abbrev pub replays : {T : Type 0} → Tagging T → Setting → List (Event T) → Type 0
replays ops config events = replays_from ops (opening ops config) events
