-- The lines of a script.
use Rattle.std.specs.Prelude.{ℕ, ◌^◌, ◌==◌, Bool, false, not, ◌&&◌, List, [], ◌∷◌, length, Option, Some, None, Result, Ok, Err, nat_lt, nat_le, if◌then◌else◌, codes}
use Rattle.std.specs.List.{list_all}
use Rattle.std.specs.Option.{ok_or}
use Rattle.dmc_types.specs.Limits.{max_hz, max_moment, max_line_bytes}
use Rattle.std.specs.Str.{bytes_eq}
use Rattle.dmc_types.specs.declared.config.AtLimit.{AtLimit}
use Rattle.dmc_types.specs.declared.config.AtLimit.TheVariants.{Wait, Allow, Reject}
use Rattle.dmc_types.specs.declared.config.Shares.{Shares}
use Rattle.dmc_types.specs.declared.config.Shares.TheVariants.{Clock, Virtual}
use Rattle.dmc_text.specs.declared.cause.LineCause.{LineCause}
use Rattle.dmc_text.specs.declared.cause.LineCause.TheVariants.{Bytes, Hz, Words, Number}
use Rattle.dmc_text.specs.declared.command.CommandFault.{CommandFault}
use Rattle.dmc_text.specs.declared.command.CommandFault.TheVariants as unread
use Rattle.dmc_types.specs.declared.command.Command.{Command}
use Rattle.dmc_types.specs.Values.{Setting, threshold_of}
use Rattle.dmc_text.specs.declared.line.LineKind.{LineKind}
use Rattle.dmc_text.specs.declared.line.LineKind.TheVariants as kinds
use Rattle.dmc_text.specs.declared.line.Line.{Line}
use Rattle.dmc_text.specs.declared.line.Line.TheVariants.{Skip, Config, Ask, Value}
use Rattle.dmc_text.specs.Numbers.{number}
use Rattle.dmc_text.specs.Words.{words}
use Rattle.dmc_text.specs.Answers.{◌>>=◌}
use Rattle.dmc_text.specs.Commands.{Phrase, phrase, command}

-- ---- bytes

abbrev pub is_line_byte : ℕ → Bool
is_line_byte b = nat_le 32 b && nat_le b 126

-- at most as many bytes as a line may have, each 32 to 126
unfoldable pub is_clean : List ℕ → Bool
is_clean line = nat_le (length line) max_line_bytes && list_all is_line_byte line

-- ---- the hz line

-- the words of an hz line: hz, and the ages if they are given
pub record Heading : Type 0 where
  pub hz : List ℕ
  pub ages : Option (List ℕ × List ℕ)
  pub at_limit : AtLimit
  pub shares : Shares

abbrev pub is_virtual : List ℕ → Bool
is_virtual word = bytes_eq word (codes "virtual")

-- the last word of an hz line: nothing, or `virtual`
abbrev pub shares_of : List (List ℕ) → Result Shares LineCause
shares_of [] = Ok Clock
shares_of (last ∷ []) = if is_virtual last then Ok Virtual else Err Words
shares_of (a ∷ b ∷ ws) = Err Words

unfoldable pub figure : List ℕ → Result ℕ LineCause
figure word = ok_or (number (2 ^ 64) word) Number

abbrev pub is_reject : List ℕ → Bool
is_reject word = bytes_eq word (codes "reject")

-- the words behind `reject`: the threshold, and the last word
abbrev pub rejecting : List (List ℕ) → Result (AtLimit × Shares) LineCause
rejecting [] = Err Words
rejecting (n ∷ ws) = do
  shares ← shares_of ws
  threshold ← figure n
  Ok (Reject threshold, shares)

-- the last words of an hz line: `allow`, `reject N` or neither, and `virtual` or not
abbrev pub modes_of : List (List ℕ) → Result (AtLimit × Shares) LineCause
modes_of [] = Ok (Wait, Clock)
modes_of (w ∷ ws) =
    if bytes_eq w (codes "allow") then shares_of ws >>= (λ shares. Ok (Allow, shares))
    else (if is_reject w then rejecting ws else shares_of (w ∷ ws) >>= (λ shares. Ok (Wait, shares)))

abbrev pub with_modes : List ℕ → Option (List ℕ × List ℕ) → List (List ℕ) → Result Heading LineCause
with_modes hz ages last = modes_of last >>= λ modes. Ok (record { hz = hz; ages = ages; at_limit = modes.0; shares = modes.1 })

-- whether two words behind H are the ages: the first is not `reject`, and the second is not the last word and `virtual`
abbrev pub are_ages : List ℕ → List ℕ → List (List ℕ) → Bool
are_ages a b [] = not (is_reject a) && not (is_virtual b)
are_ages a b (w ∷ ws) = not (is_reject a)

-- the words after `hz`: H or H IDLE ERASE, and then the modes
unfoldable pub heading : List (List ℕ) → Result Heading LineCause
heading [] = Err Words
heading (h ∷ []) = with_modes h None []
heading (h ∷ last ∷ []) = with_modes h None (last ∷ [])
heading (h ∷ a ∷ b ∷ ws) = if are_ages a b ws then with_modes h (Some (a, b)) ws else with_modes h None (a ∷ b ∷ ws)

-- the ages that are given, or otherwise the greatest
abbrev pub ages_of : Option (List ℕ × List ℕ) → Result (ℕ × ℕ) LineCause
ages_of None = Ok (max_moment, max_moment)
ages_of (Some words) = do
  idle ← figure words.0
  erase ← figure words.1
  Ok (idle, erase)

-- a configuration within its limits
unfoldable pub configured : ℕ → ℕ → ℕ → AtLimit → Shares → Result Setting LineCause
configured hz idle erase at_limit shares =
    if nat_lt 0 hz && nat_le hz max_hz && nat_lt 0 idle && nat_le idle erase && nat_le erase max_moment && nat_le (threshold_of at_limit) max_moment
    then Ok (record { hz = hz; idle_age = idle; erase_age = erase; at_limit = at_limit; shares = shares })
    else Err Hz

unfoldable pub setting : Heading → Result Setting LineCause
setting h = do
  hz ← figure h.hz
  ages ← ages_of h.ages
  configured hz ages.0 ages.1 h.at_limit h.shares

-- ---- commands

-- a value out of its limits gets a reply; a word that is no number ends the run
abbrev pub line_of_command : Result Command CommandFault → Result Line LineCause
line_of_command (Ok c) = Ok (Ask c)
line_of_command (Err (unread.Value v)) = Ok (Value v)
line_of_command (Err unread.Number) = Err Number

-- a command, and no word after it
abbrev pub alone : Phrase × List (List ℕ) → Result Phrase LineCause
alone (p, []) = Ok p
alone (p, w ∷ ws) = Err Words

-- the line of a command's words
unfoldable pub line_of_words : List (List ℕ) → Result Line LineCause
line_of_words ws = do
  x ← phrase ws
  p ← alone x
  line_of_command (command p)

-- ---- lines

-- a line whose first word begins with `#` is ignored
abbrev pub is_comment : List ℕ → Bool
is_comment [] = false
is_comment (b ∷ bs) = b == 35

-- the kind of a line, by its words: an hz line is first, and there is one
abbrev pub kind : Bool → List (List ℕ) → Result LineKind LineCause
kind has_config [] = Ok kinds.Skip
kind has_config (name ∷ args) =
    if is_comment name then Ok kinds.Skip
    else (if has_config then (if bytes_eq name (codes "hz") then Err Hz else Ok kinds.Command)
    else (if bytes_eq name (codes "hz") then heading args >>= setting >>= (λ config. Ok (kinds.Config config)) else Err Hz))

-- the kind of a line; has_config: an hz line was read before
abbrev pub kind_of : Bool → List ℕ → Result LineKind LineCause
kind_of has_config line = if is_clean line then kind has_config (words line) else Err Bytes

-- the meaning of the words of a line of a script
abbrev pub line_of_kind : LineKind → List (List ℕ) → Result Line LineCause
line_of_kind kinds.Skip ws = Ok Skip
line_of_kind (kinds.Config config) ws = Ok (Config config)
line_of_kind kinds.Command ws = line_of_words ws

-- the meaning of a line of a script; has_config: an hz line was read before
abbrev pub line_of : Bool → List ℕ → Result Line LineCause
line_of has_config line = kind_of has_config line >>= λ k. line_of_kind k (words line)
