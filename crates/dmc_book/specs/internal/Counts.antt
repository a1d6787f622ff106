-- How much an event adds to a count.
use Rattle.std.specs.Prelude.{ℕ, ◌≤◌}
use Rattle.dmc_book.specs.Counts.{max_added}
use Rattle.dmc_book.specs.PerCount.{WorkerCounts, EachCount}

-- each number fits an u32
abbrev pub IsSmall : WorkerCounts ℕ → Type 0
IsSmall numbers = EachCount (λ n. n ≤ max_added) numbers
