-- The lines of an event text.
use Rattle.std.specs.Prelude.{ℕ, ℤ, ◌^◌, Bool, true, false, ◌&&◌, List, [], ◌∷◌, Option, Some, None, option_and_then, Result, Ok, Err, if◌then◌else◌, codes}
use Rattle.std.specs.Option.{ok_or}
use Rattle.std.specs.Str.{bytes_eq}
use Rattle.dmc_types.specs.declared.command.Command.{Command}
use Rattle.dmc_types.specs.declared.ids.ServerId.{ServerId}
use Rattle.dmc_tag.specs.declared.event.Event.{Event}
use Rattle.dmc_text.specs.declared.cause.LineCause.{LineCause}
use Rattle.dmc_text.specs.declared.cause.LineCause.TheVariants.{Hz, Words, Number}
use Rattle.dmc_text.specs.declared.command.CommandFault.{CommandFault}
use Rattle.dmc_text.specs.declared.line.LineKind.{LineKind}
use Rattle.dmc_text.specs.declared.line.LineKind.TheVariants as kinds
use Rattle.dmc_text.specs.Answers.{◌>>=◌}
use Rattle.dmc_text.specs.Words.{words}
use Rattle.dmc_text.specs.Numbers.{number}
use Rattle.dmc_text.specs.Commands.{Phrase, phrase, command}
use Rattle.dmc_text.specs.Replies.{Saying, saying, reply_said}
use Rattle.dmc_text.specs.Lines.{kind_of}
use Rattle.dmc_text.specs.declared.event_line.EventLine.{EventLine}
use Rattle.dmc_text.specs.declared.event_line.EventLine.TheVariants.{Skip, Config}
use Rattle.dmc_text.specs.declared.event_line.EventLine.TheVariants as event_lines

-- ---- words

-- an event whose words are not yet read as numbers or tags
pub record Spoken : Type 0 where
  pub worker : List ℕ
  pub command : Phrase
  pub reply : Saying

-- after the command there is `=`, and a reply up to the end of the line
unfoldable pub answer_words : List (List ℕ) → Result Saying LineCause
answer_words [] = Err Words
answer_words (sign ∷ ws) = if bytes_eq sign (codes "=") then saying ws else Err Words

-- the event of words: the worker, the command, and the reply
unfoldable pub event_words : List (List ℕ) → Result Spoken LineCause
event_words [] = Err Words
event_words (worker ∷ ws) = phrase ws >>= λ p. answer_words p.1 >>= λ s. Ok (record { worker = worker; command = p.0; reply = s })

-- ---- numbers and tags

-- a value that a script would refuse is no number
abbrev pub sure : Result Command CommandFault → Result Command LineCause
sure (Ok c) = Ok c
sure (Err fault) = Err Number

-- the event of words that are read
unfoldable pub event_said : {T : Type 0} → (ℤ → ℕ → Option T) → Spoken → Result (Event T) LineCause
event_said made s = do
  worker ← ok_or (number (2 ^ 32) s.worker) Number
  asked ← sure (command s.command)
  reply ← reply_said made s.reply
  Ok (record { worker = record { 0 = worker }; command = asked; reply = reply })

-- ---- headers of segments

abbrev pub names_header : List ℕ → List ℕ → List ℕ → Bool
names_header sign server first = bytes_eq sign (codes "#") && bytes_eq server (codes "server") && bytes_eq first (codes "first")

-- S and N of the words `#`, `server`, S, `first` and N; other words make no header
unfoldable pub header_words : List (List ℕ) → Option (List ℕ × List ℕ)
header_words (a ∷ b ∷ s ∷ c ∷ n ∷ []) = if names_header a b c then Some (s, n) else None
header_words _ = None

-- the server, a number of 32 bits, and the number of the first event, of 64 bits
unfoldable pub header_said : List ℕ × List ℕ → Option (ServerId × ℕ)
header_said x = option_and_then (λ server. option_and_then (λ first. Some (record { 0 = server }, first)) (number (2 ^ 64) x.1)) (number (2 ^ 32) x.0)

abbrev pub header_of : List (List ℕ) → Option (ServerId × ℕ)
header_of ws = option_and_then header_said (header_words ws)

-- a header comes after the hz line; any other comment means nothing
abbrev pub comment : {T : Type 0} → Bool → Option (ServerId × ℕ) → Result (EventLine T) LineCause
comment has_config None = Ok Skip
comment true (Some h) = Ok (event_lines.Segment h.0 h.1)
comment false (Some h) = Err Hz

-- ---- lines

-- the meaning of the words of a line of this kind
abbrev pub event_line_of_kind : {T : Type 0} → (ℤ → ℕ → Option T) → Bool → LineKind → List (List ℕ) → Result (EventLine T) LineCause
event_line_of_kind made has_config kinds.Skip ws = comment has_config (header_of ws)
event_line_of_kind made has_config (kinds.Config config) ws = Ok (Config config)
event_line_of_kind made has_config kinds.Command ws = event_words ws >>= event_said made >>= (λ event. Ok (event_lines.Event event))

-- the meaning of a line; has_config: an hz line was read before
abbrev pub event_of : {T : Type 0} → (ℤ → ℕ → Option T) → Bool → List ℕ → Result (EventLine T) LineCause
event_of made has_config line = kind_of has_config line >>= λ k. event_line_of_kind made has_config k (words line)
