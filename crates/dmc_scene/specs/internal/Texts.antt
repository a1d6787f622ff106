-- Texts that are parsed.
use Rattle.std.specs.Prelude.{ℕ, ◌≤◌, List, length, IsUtf8}
use Rattle.dmc_types.specs.Limits.{max_scene_bytes}

-- short enough and UTF-8
abbrev pub MayBeScene : List ℕ → Type 0
MayBeScene text = (length text ≤ max_scene_bytes) × IsUtf8 text
