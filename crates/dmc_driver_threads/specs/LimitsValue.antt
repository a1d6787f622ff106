-- What contracts see of the limits of a run.
use Rattle.std.specs.Prelude.{ℕ}

-- the most events of a history, and the most that a tracker counts of completions, in units of cost
pub record LimitsValue : Type 0 where
  pub events : ℕ
  pub completions : ℕ
