use Rattle.std.proofs.Common.{◌≤◌, arith}
use Rattle.std.specs.Prelude.{unsigned_abs}
use Rattle.std.proofs.lemmas.Int.{to_z-of_z}
use Rattle.std.proofs.Math.Nat.{div-le_self}
use Rattle.dmc_ratio.specs.Lowest.{lowest_pos}
use Rattle.dmc_ratio.specs.Ratio.{Ratio, ratio_fraction, IsRatioValue, max_numer, max_denom}
use Rattle.dmc_ratio.proofs.ratio.RatioTagTag.plus.Goals as goal

pub returns-clause-sum : goal.returns-clause-sum
returns-clause-sum c = grind (arith, to_z-of_z, c.reduce.ensures)

value_within : (r : Ratio) → unsigned_abs r.numer ≤ max_numer → r.denom ≤ max_denom → IsRatioValue (ratio_fraction r)
value_within r h k = record {
  some = lowest_pos r.numer r.denom r.lowest;
  numer_fits = λ g _. omega (arith, div-le_self (unsigned_abs r.numer) g, h);
  denom_fits = λ g _. omega (arith, div-le_self r.denom g, k);
}

pub returns-clause-value : goal.returns-clause-value
returns-clause-value c = value_within c.args.self (omega arith) (omega arith)
