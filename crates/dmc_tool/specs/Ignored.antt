-- The lines on the keys of a text that are ignored, since no scene has them.
use Rattle.std.specs.Prelude.{ℕ, ◌&&◌, nat_le, if◌then◌else◌, List, [], ◌++◌, codes, flat_map, length, map, take, Option, Some, None}
use Rattle.dmc_scene.specs.Ignored.{IgnoredValue, ignored_in}
use Rattle.dmc_text.specs.Texts.{with_line_end}
use Rattle.dmc_tool.specs.Explanations.{place_text}

-- a byte of a name as it is shown, so that none controls a terminal: printable ASCII, or `?`
abbrev pub shown_byte : ℕ → ℕ
shown_byte byte = if nat_le 32 byte && nat_le byte 126 then byte else 63

-- the most bytes of a name that are shown
abbrev pub max_shown : ℕ
max_shown = 64

-- a name as it is shown
abbrev pub shown_name : List ℕ → List ℕ
shown_name name = map shown_byte (take max_shown name) ++ (if nat_le (length name) max_shown then [] else codes "..")

-- why a key is ignored, by whether it is in a client's table
abbrev pub reason : Option ℕ → List ℕ
reason None = codes "ignored, since no scene has it"
reason (Some place) = codes "ignored, since no client has it"

-- the line of a key, with its LF
abbrev pub ignored_line : IgnoredValue → List ℕ
ignored_line key = with_line_end (place_text key.client ++ (codes ": key " ++ (shown_name key.name ++ (codes ": " ++ reason key.client))))

-- the lines of a text, in the order of the keys
abbrev pub ignored_lines : List ℕ → List ℕ
ignored_lines text = flat_map ignored_line (ignored_in text)
