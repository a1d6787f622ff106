-- Heads of tests.
use Rattle.std.specs.Prelude.{ℕ, pos, false, List, [], ◌∷◌, Option, Some, None}
use Rattle.dmc_tick.specs.declared.tick.TickTag.{TickTag}
use Rattle.dmc_head_index.specs.declared.head.Head.{Head}

-- an unready head with tags of this many ticks
abbrev pub example : ℕ → ℕ → ℕ → ℕ → Head TickTag
example client r l p = record { client = record { 0 = client }; tags = record { r = Some (pos r); l = pos l; p = pos p }; ready = false }

abbrev pub two_heads : List (Option (Head TickTag))
two_heads = Some (example 2 30 20 80) ∷ None ∷ None ∷ Some (example 1 40 10 70) ∷ []
