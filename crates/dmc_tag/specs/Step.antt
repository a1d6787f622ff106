-- One command: the state after it and the reply that the rules give. A refused command leaves the state.
use Rattle.std.specs.Prelude.{Ok, Err}
use Rattle.dmc_types.specs.declared.command.Command.{Command}
use Rattle.dmc_types.specs.declared.command.Command.TheVariants.{Register, Update, Add, Pull, Remove, Cancel, Clean}
use Rattle.dmc_tag.specs.Tag.{Tagging}
use Rattle.dmc_tag.specs.State.{State, effective}
use Rattle.dmc_tag.specs.Rules.{Outcome, registered, updated, added, pulled, removed, cleaned}
use Rattle.dmc_tag.specs.Cancel.{cancelled}
use Rattle.dmc_tag.specs.declared.reply.Reply.{Reply}
use Rattle.dmc_tag.specs.declared.reply.Reply.TheVariants.{Refused}

abbrev pub outcome : {T : Type 0} → Tagging T → State T → Command → Outcome T
outcome ops s (Register client info at) = registered ops s client info (effective s at)
outcome ops s (Update client info at) = updated ops s client info (effective s at)
outcome ops s (Add client token params at) = added ops s client token params (effective s at)
outcome ops s (Pull at) = pulled ops s (effective s at)
outcome ops s (Remove client) = removed s client
outcome ops s (Cancel client token counting) = cancelled ops s client token counting
outcome ops s (Clean at) = cleaned s (effective s at)

-- the state and the reply of an outcome: a refusal is a reply, and changes nothing
abbrev pub answer_of : {T : Type 0} → State T → Outcome T → State T × Reply T
answer_of s (Ok answer) = answer
answer_of s (Err refusal) = (s, Refused refusal)

abbrev pub step : {T : Type 0} → Tagging T → State T → Command → State T × Reply T
step ops s command = answer_of s (outcome ops s command)
