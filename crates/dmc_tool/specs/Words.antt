-- What the words of the command line ask for, as clap matches them.
use Rattle.std.specs.Prelude.{◌≡◌, ◌≢◌, ◌<◌, ℕ, Bool, length, take, List, [], ◌∷◌, Option, Some, None, codes, find, if◌then◌else◌, is_some, option_and_then, option_map, true, false}
use Rattle.std.specs.List.{list_any}
use Rattle.std.specs.Option.{option_map_or}
use Rattle.std.specs.Str.{bytes_eq}
use Rattle.clap.specs.Words.{App, Kinds, Row, Rule, Text, fault_of, first_of, matches_of, new_app, new_rule, subcommand_of, with_rule, with_subcommand}
use Rattle.clap.specs.declared.builder.action.ArgAction.TheVariants.{SetTrue}
use Rattle.clap.specs.declared.error.kind.ErrorKind.{ErrorKind}
use Rattle.clap.specs.declared.error.kind.ErrorKind.TheVariants as kind
use Rattle.dmc_types.specs.declared.config.TagKind.{TagKind}
use Rattle.dmc_types.specs.declared.config.TagKind.TheVariants.{Tick, Ratio}
use Rattle.dmc_tool.specs.declared.words.Request.{Request}
use Rattle.dmc_tool.specs.declared.words.Request.TheVariants as request
use Rattle.dmc_tool.specs.declared.words.Tool.{Tool}
use Rattle.dmc_tool.specs.declared.words.ToolCommand.{ToolCommand}
use Rattle.dmc_tool.specs.declared.words.ToolCommand.TheVariants.{Script, Check, Sim, Run}
use Rattle.dmc_tool.specs.declared.words.WordsFault.{WordsFault}
use Rattle.dmc_tool.specs.declared.words.WordsFault.TheVariants.{Usage, Memory}

-- ---- the names

abbrev pub name_of : ToolCommand → Text
name_of Script = codes "script"
name_of Check = codes "check"
name_of Sim = codes "sim"
name_of Run = codes "run"

abbrev pub kind_named : Text → Option TagKind
kind_named word =
    if bytes_eq word (codes "tick") then Some Tick
    else (if bytes_eq word (codes "ratio") then Some Ratio else None)

-- ---- what is asked for

-- the version, or a tool, the name of the file that it reads, if that is not standard input, whether a fault is explained, and
-- whether progress is shown
pub data Asked : Type 0 where
  ask_version : Asked
  ask_tool : Tool → Option Text → Bool → Bool → Asked

abbrev pub asked : Request → Asked
asked request.Version = ask_version
asked (request.Tool tool file is_explained shows_progress) = ask_tool tool (option_map (λ s. s.now) file) is_explained shows_progress

-- whether a fault is explained
abbrev pub explains : Asked → Bool
explains ask_version = false
explains (ask_tool tool file is_explained shows_progress) = is_explained

-- the command whose progress is shown
abbrev pub shown_command : Asked → Option ToolCommand
shown_command ask_version = None
shown_command (ask_tool tool file is_explained shows_progress) = if shows_progress then Some tool.command else None

-- ---- what clap gets

-- an option with a value, a flag, and a word that is no option
abbrev pub option_rule : Text → Rule
option_rule name = record (new_rule name) { long = Some name }

abbrev pub flag_rule : Text → Rule
flag_rule name = record (new_rule name) { long = Some name; action = Some SetTrue }

-- a command that takes the name of a file, and the flags `--explain` and `--progress`
abbrev pub plain_app : Text → App
plain_app name = with_rule (with_rule (with_rule (new_app name) (new_rule (codes "file"))) (flag_rule (codes "explain"))) (flag_rule (codes "progress"))

-- a command that takes the option `--tags` too
abbrev pub tagged_app : Text → App
tagged_app name = with_rule (plain_app name) (option_rule (codes "tags"))

-- the words do not begin with the program's name, and there is no help
abbrev pub bare : App → App
bare app = record app {
  top = record app.top {
    no_binary_name = true;
    disable_help_flag = true;
    disable_help_subcommand = true;
  };
}

unfoldable pub program_app : App
program_app =
    with_subcommand
    (with_subcommand
    (with_subcommand
    (with_subcommand (with_rule (bare (new_app (codes "dmclock"))) (flag_rule (codes "version"))) (tagged_app (name_of Script)).top)
    (tagged_app (name_of Check)).top)
    (plain_app (name_of Sim)).top)
    (plain_app (name_of Run)).top

-- ---- what clap returns

abbrev pub if_no_fault : {X : Type 0} → Kinds → Option X → Option X
if_no_fault [] x = x
if_no_fault (k ∷ ks) x = None

-- clap's match of the words: what the program's own options are given, and the command that is named with what its own are given
unfoldable pub match_of : List Text → Option (List Row × Option (Text × List Row))
match_of words = if_no_fault (fault_of program_app words) (Some (matches_of program_app words, subcommand_of program_app words))

-- whether a flag is given
abbrev pub flag_in : Text → List Row → Bool
flag_in name rows = option_map_or (λ given. bytes_eq given (codes "true")) (first_of name rows) false

-- the tags of a match, ticks if none are named
abbrev pub tags_in : List Row → Option TagKind
tags_in rows = option_map_or kind_named (first_of (codes "tags") rows) (Some Tick)

-- the tool of a match whose command is written
abbrev pub tool_in : List ToolCommand → Text × List Row → Option Tool
tool_in written m =
    option_and_then (λ c. option_map (λ t. record { command = c; tags = t }) (tags_in m.1))
    (find (λ c. bytes_eq (name_of c) m.0) written)

-- what the command of a match asks for
abbrev pub command_in : List ToolCommand → Text × List Row → Option Asked
command_in written m = option_map (λ t. ask_tool t (first_of (codes "file") m.1) (flag_in (codes "explain") m.1) (flag_in (codes "progress") m.1)) (tool_in written m)

-- what a match asks for: the version is asked for alone, or a command
abbrev pub asked_in : List ToolCommand → List Row × Option (Text × List Row) → Option Asked
asked_in written m =
    if flag_in (codes "version") m.0 then (if is_some m.1 then None else Some ask_version)
    else option_and_then (command_in written) m.1

-- what the words ask for
abbrev pub asked_by_words : List ToolCommand → List Text → Option Asked
asked_by_words written words = option_and_then (asked_in written) (match_of words)

-- ---- words that ask for nothing

-- The most words that ask for something, of the first words but not of all, or 0 if there are none: the word behind them is the
-- first that is not as in the usage.
pub record IsLongestPart (written : List ToolCommand) (words : List Text) (count : ℕ) : Type 0 where
  pub asks : 0 < count → asked_by_words written (take count words) ≢ None
  pub longest : (n : ℕ) → count < n → n < length words → asked_by_words written (take n words) ≡ None

-- whether the words ask for an explanation, whatever else they say
abbrev pub has_explain : List Text → Bool
has_explain = list_any (λ word. bytes_eq word (codes "--explain"))

-- ---- faults

-- the fault for an error of clap
abbrev pub fault_at : ErrorKind → WordsFault
fault_at kind.OutOfMemory = Memory
fault_at _ = Usage
