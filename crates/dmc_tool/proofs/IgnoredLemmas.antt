-- Names as they are shown.
use Rattle.std.proofs.Common.{◌≡◌, ℕ, ◌≤◌, List, length, map, append-nil, le-leb}
use Rattle.std.proofs.lemmas.List.{take_all}
use Rattle.dmc_tool.specs.Ignored.{max_shown, shown_byte, shown_name}

-- a name that is shown whole
pub short_name : (name : List ℕ) → length name ≤ max_shown → shown_name name ≡ map shown_byte name
short_name name short = rw (le-leb (length name) max_shown short, take_all max_shown name short) (append-nil (map shown_byte name))
