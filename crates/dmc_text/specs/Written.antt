-- The lines that are written of a configuration, a command, an event and a segment: words, separated by one space each.
use Rattle.std.specs.Prelude.{ℕ, List, [], ◌∷◌, ◌++◌, Option, Some, None, codes}
use Rattle.std.specs.List.{join_with_byte}
use Rattle.std.specs.Fmt.{decimal}
use Rattle.dmc_types.specs.Values.{Rates, Setting}
use Rattle.dmc_types.specs.declared.config.AtLimit.{AtLimit}
use Rattle.dmc_types.specs.declared.config.AtLimit.TheVariants.{Wait, Allow, Reject}
use Rattle.dmc_types.specs.declared.config.Counting.{Counting}
use Rattle.dmc_types.specs.declared.config.Counting.TheVariants.{All, Others}
use Rattle.dmc_types.specs.declared.config.Shares.{Shares}
use Rattle.dmc_types.specs.declared.config.Shares.TheVariants.{Clock, Virtual}
use Rattle.dmc_types.specs.declared.ids.ClientId.{ClientId}
use Rattle.dmc_types.specs.declared.command.Command.{Command}
use Rattle.dmc_types.specs.declared.command.Command.TheVariants.{Register, Update, Add, Pull, Remove, Cancel, Clean}
use Rattle.dmc_tag.specs.declared.event.Event.{Event}
use Rattle.dmc_text.specs.Replies.{cost_words, reply_words}

-- ---- the configuration

-- `allow` if a pull grants beyond limits, `reject` and the threshold if adds are refused at the limit
abbrev pub limit_words : AtLimit → List (List ℕ)
limit_words Wait = []
limit_words Allow = codes "allow" ∷ []
limit_words (Reject threshold) = codes "reject" ∷ decimal threshold ∷ []

-- `virtual` if shares are in virtual time
abbrev pub shares_words : Shares → List (List ℕ)
shares_words Clock = []
shares_words Virtual = codes "virtual" ∷ []

-- both ages are always written
abbrev pub config_words : Setting → List (List ℕ)
config_words c = codes "hz" ∷ decimal c.hz ∷ decimal c.idle_age ∷ decimal c.erase_age ∷ limit_words c.at_limit ++ shares_words c.shares

abbrev pub config_text : Setting → List ℕ
config_text c = join_with_byte 32 (config_words c)

-- ---- commands

-- `-` if there is no rate
abbrev pub rate_word : Option ℕ → List ℕ
rate_word None = codes "-"
rate_word (Some q) = decimal q

-- what follows `client` or `update`
abbrev pub info_words : ClientId → Rates → ℕ → List (List ℕ)
info_words client info at = decimal client.0 ∷ rate_word info.reservation ∷ decimal info.weight ∷ rate_word info.limit ∷ decimal at ∷ []

-- the word of a form of counting
abbrev pub counting_word : Counting → List ℕ
counting_word All = codes "all"
counting_word Others = codes "others"

abbrev pub command_words : Command → List (List ℕ)
command_words (Register client info at) = codes "client" ∷ info_words client info at
command_words (Update client info at) = codes "update" ∷ info_words client info at
command_words (Add client token params at) = codes "add" ∷ decimal client.0 ∷ decimal token.0 ∷ decimal params.delta ∷ decimal params.rho ∷ decimal at ∷ cost_words params.cost
command_words (Pull at) = codes "pull" ∷ decimal at ∷ []
command_words (Remove client) = codes "drop" ∷ decimal client.0 ∷ []
command_words (Cancel client token counting) = codes "cancel" ∷ decimal client.0 ∷ decimal token.0 ∷ counting_word counting ∷ []
command_words (Clean at) = codes "clean" ∷ decimal at ∷ []

abbrev pub command_text : Command → List ℕ
command_text command = join_with_byte 32 (command_words command)

-- ---- events

-- the worker, its command, and the reply, where text is the text of a tag
abbrev pub event_words : {T : Type 0} → (T → List ℕ) → Event T → List (List ℕ)
event_words text event = decimal event.worker.0 ∷ (command_words event.command ++ (codes "=" ∷ reply_words text event.reply))

abbrev pub event_text : {T : Type 0} → (T → List ℕ) → Event T → List ℕ
event_text text event = join_with_byte 32 (event_words text event)

-- ---- segments

-- whose queue it is, and the number of the segment's first event
abbrev pub header_words : (server first : ℕ) → List (List ℕ)
header_words server first = codes "#" ∷ codes "server" ∷ decimal server ∷ codes "first" ∷ decimal first ∷ []

abbrev pub header_text : (server first : ℕ) → List ℕ
header_text server first = join_with_byte 32 (header_words server first)
