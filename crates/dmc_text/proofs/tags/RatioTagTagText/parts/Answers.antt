-- A ratio is made again of its two numbers.
use Rattle.std.proofs.Common.{◌≡◌, Some, arith}
use Rattle.std.proofs.lemmas.Int.{to_z-of_z}
use Rattle.dmc_text.specs.RatioText.{ratio_if_lowest}
use Rattle.dmc_text.specs.internal.RatioText.{made_again}
use Rattle.dmc_text.proofs.tags.RatioTagTagText.parts.Goals as goal

pub returns-clause-again : goal.returns-clause-again
returns-clause-again c =
    let made : ratio_if_lowest c.numer.result c.denom.result ≡ Some c.args.self =
    made_again c.args.self c.numer.result c.denom.result c.numer.ensures.value c.denom.ensures.value c.numer.ensures.bound c.denom.ensures.bound in
    grind (arith, to_z-of_z, made)
