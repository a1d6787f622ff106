use Rattle.std.proofs.Common.{◌≡◌, Option, sym, ap, ◌∙◌, subst}
use Rattle.std.proofs.lemmas.Int.{to_z-of_z}
use Rattle.std.specs.Int.{w128}
use Rattle.dmc_tag.specs.Tag.{Gives}
use Rattle.dmc_ratio.specs.Ratio.{Ratio, reduced, ratio_fraction, IsRatioValue}
use Rattle.dmc_ratio.specs.RatioExact.{reduced_gives}
use Rattle.dmc_ratio.proofs.ratio.RatioTag.new.Goals as goal

pub returns-clause-exact : goal.returns-clause-exact
returns-clause-exact c =
    let n = c.args.numer in
    let d = c.args.denom in
    let value : c.reduce.result ≡ reduced n d = c.reduce.ensures ∙ ap (λ x. reduced x d) (to_z-of_z w128 n c.ranges.numer) in
    subst (λ (tag : Option Ratio). Gives ratio_fraction IsRatioValue tag (record { numer = n; denom = d })) (sym value) (reduced_gives n d)
