-- What is left of two counts that go together without others, and when some are a part of others.
use Rattle.std.specs.Prelude.{◌+◌, ◌-◌, ◌≤◌}
use Rattle.dmc_types.specs.Values.{Counts}

abbrev pub minus : Counts → Counts → Counts
minus a b = record { delta = a.delta - b.delta; rho = a.rho - b.rho }

-- the first counts are a part of the second: so are their parts in the constraint phase, and what is left of them
pub record IsPart (part whole : Counts) : Type 0 where
  pub delta : part.delta ≤ whole.delta
  pub rho : part.rho ≤ whole.rho
  pub rest : part.delta + whole.rho ≤ whole.delta + part.rho
