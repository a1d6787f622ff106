use Rattle.std.proofs.Common.{refl, arith}
use Rattle.std.proofs.lemmas.Int.{ints}
use Rattle.dmc_ratio.specs.Ratio.{same_ratio}
use Rattle.dmc_ratio.proofs.ratio.RatioTagTag.of_moment.Goals as goal

pub returns : goal.returns
returns c = same_ratio _ _ (omega (arith, ints)) refl
