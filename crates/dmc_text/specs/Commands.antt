-- The commands of a line: which words make one, and what its numbers mean.
use Rattle.std.specs.Prelude.{ℕ, ◌^◌, Bool, true, ◌&&◌, List, [], ◌∷◌, Option, Some, None, Result, Ok, Err, nat_lt, nat_le, if◌then◌else◌, codes}
use Rattle.std.specs.Option.{ok_or, option_map}
use Rattle.std.specs.Str.{bytes_eq}
use Rattle.dmc_types.specs.Limits.{max_moment}
use Rattle.dmc_types.specs.Values.{Params, Rates}
use Rattle.dmc_types.specs.declared.config.Counting.{Counting}
use Rattle.dmc_types.specs.declared.config.Counting.TheVariants.{All, Others}
use Rattle.dmc_types.specs.declared.ids.ClientId.{ClientId}
use Rattle.dmc_types.specs.declared.refusal.ValueFault.TheVariants as faults
use Rattle.dmc_types.specs.declared.command.Command.{Command}
use Rattle.dmc_types.specs.declared.command.Command.TheVariants as commands
use Rattle.dmc_text.specs.declared.cause.LineCause.{LineCause}
use Rattle.dmc_text.specs.declared.cause.LineCause.TheVariants.{Words}
use Rattle.dmc_text.specs.declared.command.Verb.{Verb}
use Rattle.dmc_text.specs.declared.command.Verb.TheVariants.{Client, Update, Add, Pull, Drop, Cancel, Clean}
use Rattle.dmc_text.specs.declared.command.CommandFault.{CommandFault}
use Rattle.dmc_text.specs.declared.command.CommandFault.TheVariants.{Number, Value}
use Rattle.dmc_text.specs.declared.command.CommandWords.{CommandWords}
use Rattle.dmc_text.specs.declared.command.CommandWords.TheVariants as shown
use Rattle.dmc_text.specs.Numbers.{number}
use Rattle.dmc_text.specs.Answers.{◌>>=◌}

-- ---- words

-- the command that a first word names
abbrev pub verb_of : List ℕ → Option Verb
verb_of word =
    if bytes_eq word (codes "client") then Some Client
    else (if bytes_eq word (codes "update") then Some Update
    else (if bytes_eq word (codes "add") then Some Add
    else (if bytes_eq word (codes "pull") then Some Pull
    else (if bytes_eq word (codes "drop") then Some Drop
    else (if bytes_eq word (codes "cancel") then Some Cancel
    else (if bytes_eq word (codes "clean") then Some Clean
    else None))))))

-- a command whose words are not yet read as numbers
pub data Phrase : Type 0 where
  registering : (client reservation weight limit at : List ℕ) → Phrase
  updating : (client reservation weight limit at : List ℕ) → Phrase
  adding : (client token delta rho at : List ℕ) → (cost : Option (List ℕ)) → Phrase
  pulling : (at : List ℕ) → Phrase
  dropping : (client : List ℕ) → Phrase
  cancelling : (client token : List ℕ) → (counting : Counting) → Phrase
  cleaning : (at : List ℕ) → Phrase

-- a phrase of one word, and the words after it
abbrev pub with_one : (List ℕ → Phrase) → List (List ℕ) → Result (Phrase × List (List ℕ)) LineCause
with_one make [] = Err Words
with_one make (a ∷ behind) = Ok (make a, behind)

-- a phrase of five words, and the words after it
abbrev pub with_five : (List ℕ → List ℕ → List ℕ → List ℕ → List ℕ → Phrase) → List (List ℕ) → Result (Phrase × List (List ℕ)) LineCause
with_five make (a ∷ b ∷ c ∷ d ∷ e ∷ behind) = Ok (make a b c d e, behind)
with_five make _ = Err Words

-- `cost` and a word behind the other words, or nothing; and the words after it
abbrev pub cost_behind : List (List ℕ) → Result (Option (List ℕ) × List (List ℕ)) LineCause
cost_behind [] = Ok (None, [])
cost_behind (w ∷ []) = if bytes_eq w (codes "cost") then Err Words else Ok (None, w ∷ [])
cost_behind (w ∷ n ∷ ws) = if bytes_eq w (codes "cost") then Ok (Some n, ws) else Ok (None, w ∷ n ∷ ws)

-- five words, the cost if it is given, and the words after it
abbrev pub add_phrase : List (List ℕ) → Result (Phrase × List (List ℕ)) LineCause
add_phrase (c ∷ k ∷ d ∷ r ∷ t ∷ behind) = cost_behind behind >>= λ x. Ok (adding c k d r t x.0, x.1)
add_phrase _ = Err Words

-- the form of counting that a word names
abbrev pub counting_named : List ℕ → Option Counting
counting_named word =
    if bytes_eq word (codes "all") then Some All
    else (if bytes_eq word (codes "others") then Some Others
    else None)

-- two words and that of a form of counting, and the words after it
abbrev pub cancel_phrase : List (List ℕ) → Result (Phrase × List (List ℕ)) LineCause
cancel_phrase (c ∷ k ∷ word ∷ behind) = ok_or (counting_named word) Words >>= λ counting. Ok (cancelling c k counting, behind)
cancel_phrase _ = Err Words

abbrev pub phrase_of : Verb → List (List ℕ) → Result (Phrase × List (List ℕ)) LineCause
phrase_of Client = with_five registering
phrase_of Update = with_five updating
phrase_of Add = add_phrase
phrase_of Pull = with_one pulling
phrase_of Drop = with_one dropping
phrase_of Cancel = cancel_phrase
phrase_of Clean = with_one cleaning

-- the command in these words, and the words after it
unfoldable pub phrase : List (List ℕ) → Result (Phrase × List (List ℕ)) LineCause
phrase [] = Err Words
phrase (name ∷ args) = ok_or (verb_of name) Words >>= λ v. phrase_of v args

-- ---- numbers and values

-- a number of 32 bits
unfoldable pub small : List ℕ → Result ℕ CommandFault
small word = ok_or (number (2 ^ 32) word) Number

-- a number of 64 bits
unfoldable pub long : List ℕ → Result ℕ CommandFault
long word = ok_or (number (2 ^ 64) word) Number

-- a number, or `-` for none
unfoldable pub optional : List ℕ → Result (Option ℕ) CommandFault
optional word = if bytes_eq word (codes "-") then Ok None else (small word >>= λ n. Ok (Some n))

unfoldable pub moment : ℕ → Result ℕ CommandFault
moment t = if nat_le t max_moment then Ok t else Err (Value faults.Moment)

-- the counts of a request, whose cost is 1 as yet
unfoldable pub params : ℕ → ℕ → Result Params CommandFault
params delta rho = if nat_le rho delta then Ok (record { delta = delta; rho = rho; cost = 1 }) else Err (Value faults.Params)

-- the cost, which is 1 where no word says it
unfoldable pub cost_word : Option (List ℕ) → Result ℕ CommandFault
cost_word None = Ok 1
cost_word (Some word) = small word

-- no cost is 0
unfoldable pub cost : ℕ → Result ℕ CommandFault
cost units = if nat_lt 0 units then Ok units else Err (Value faults.Cost)

-- no rate is 0
abbrev pub is_rate : Option ℕ → Bool
is_rate None = true
is_rate (Some q) = nat_lt 0 q

unfoldable pub rates : Option ℕ → ℕ → Option ℕ → Result Rates CommandFault
rates r w l = if is_rate r && is_rate (Some w) && is_rate l then Ok (record { reservation = r; weight = w; limit = l }) else Err (Value faults.Rate)

-- all numbers, and then the values, the moment first
abbrev pub with_info : (ClientId → Rates → ℕ → Command) → (client reservation weight limit at : List ℕ) → Result Command CommandFault
with_info make c r w l t = do
  client ← small c
  reservation ← optional r
  weight ← small w
  limit ← optional l
  ticks ← long t
  at ← moment ticks
  info ← rates reservation weight limit
  Ok (make (record { 0 = client }) info at)

abbrev pub with_params : (client token delta rho at : List ℕ) → Option (List ℕ) → Result Command CommandFault
with_params c k d r t n = do
  client ← small c
  token ← small k
  delta ← small d
  rho ← small r
  ticks ← long t
  units ← cost_word n
  at ← moment ticks
  stamp ← params delta rho
  charge ← cost units
  Ok (commands.Add (record { 0 = client }) (record { 0 = token }) (record stamp { cost = charge }) at)

abbrev pub with_token : (client token : List ℕ) → Counting → Result Command CommandFault
with_token c k counting = do
  client ← small c
  token ← small k
  Ok (commands.Cancel (record { 0 = client }) (record { 0 = token }) counting)

abbrev pub at_moment : (ℕ → Command) → List ℕ → Result Command CommandFault
at_moment make t = do
  ticks ← long t
  at ← moment ticks
  Ok (make at)

-- the command of a phrase
unfoldable pub command : Phrase → Result Command CommandFault
command (registering c r w l t) = with_info commands.Register c r w l t
command (updating c r w l t) = with_info commands.Update c r w l t
command (adding c k d r t n) = with_params c k d r t n
command (pulling t) = at_moment commands.Pull t
command (dropping c) = small c >>= λ client. Ok (commands.Remove (record { 0 = client }))
command (cancelling c k counting) = with_token c k counting
command (cleaning t) = at_moment commands.Clean t

-- ---- the code's words

abbrev pub seen : CommandWords → Phrase
seen (shown.Register i) = registering i.client.now i.reservation.now i.weight.now i.limit.now i.at.now
seen (shown.Update i) = updating i.client.now i.reservation.now i.weight.now i.limit.now i.at.now
seen (shown.Add a) = adding a.client.now a.token.now a.delta.now a.rho.now a.at.now (option_map (λ word. word.now) a.cost)
seen (shown.Pull at) = pulling at.now
seen (shown.Remove client) = dropping client.now
seen (shown.Cancel x) = cancelling x.client.now x.token.now x.counting
seen (shown.Clean at) = cleaning at.now
