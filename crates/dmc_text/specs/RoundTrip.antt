-- What was written of a reply, a configuration, a command, an event or a segment's header is read as that.
use Rattle.std.specs.Prelude.{◌≡◌, ℕ, ◌≤◌, ℤ, Bool, true, false, not, ◌&&◌, List, [], ◌∷◌, ◌++◌, length, Option, Some, Ok, codes}
use Rattle.std.specs.List.{list_all, join_with_byte}
use Rattle.std.specs.Str.{bytes_eq}
use Rattle.dmc_types.specs.declared.ids.ServerId.{ServerId}
use Rattle.dmc_types.specs.declared.command.Command.{Command}
use Rattle.dmc_tag.specs.declared.reply.Reply.{Reply}
use Rattle.dmc_text.specs.declared.line.LineKind.TheVariants as kinds
use Rattle.dmc_text.specs.Words.{is_space, is_word, words}
use Rattle.dmc_text.specs.Lines.{is_line_byte, kind_of}
use Rattle.dmc_text.specs.EventLines.{header_of}
use Rattle.dmc_text.specs.Commands.{Phrase, phrase, command}
use Rattle.dmc_text.specs.Replies.{reply_words, reply_text, reply_of}
use Rattle.dmc_text.specs.Written.{command_words, header_text}

-- ---- words

-- a word without a space
abbrev pub is_plain : List ℕ → Bool
is_plain w = is_word w && list_all (λ b. not (is_space b)) w

-- Words of a line: none is empty or has a space, each byte is one that a line may have, and with a space between each two they
-- have at most this many bytes.
pub record AreWords (most : ℕ) (ws : List (List ℕ)) : Type 0 where
  pub plain : list_all is_plain ws ≡ true
  pub bytes : list_all (list_all is_line_byte) ws ≡ true
  pub short : length (join_with_byte 32 ws) ≤ most

-- ---- replies and commands

-- the reply is read from its text, which leaves room in a line for a worker and a command
pub record IsReadBack {T : Type 0} (made : ℤ → ℕ → Option T) (text : T → List ℕ) (reply : Reply T) : Type 0 where
  pub read : reply_of made (words (reply_text text reply)) ≡ Ok reply
  pub of_words : AreWords 127 (reply_words text reply)

-- whether the first of these words is `cost`
abbrev pub begins_with_cost : List (List ℕ) → Bool
begins_with_cost [] = false
begins_with_cost (w ∷ ws) = bytes_eq w (codes "cost")

-- the command is read from its words, whatever follows them but `cost`
pub record IsAskedAgain (asked : Command) : Type 0 where
  pub said : Phrase
  pub said_by : (behind : List (List ℕ)) → begins_with_cost behind ≡ false → phrase (command_words asked ++ behind) ≡ Ok (said, behind)
  pub read : command said ≡ Ok asked
  pub of_words : AreWords 83 (command_words asked)

-- ---- headers of segments

-- in an event text the line is a segment's header; in a script it is a comment
pub record IsHeaderAgain (server : ServerId) (first : ℕ) : Type 0 where
  pub kind : (has_config : Bool) → kind_of has_config (header_text server.0 first) ≡ Ok kinds.Skip
  pub read : header_of (words (header_text server.0 first)) ≡ Some (server, first)
