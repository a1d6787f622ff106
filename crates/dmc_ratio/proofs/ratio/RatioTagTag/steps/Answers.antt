use Rattle.std.proofs.Common.{◌≡◌, ◌≤◌, ◌^◌, pos, ◌*ℤ◌, to_z, of_z, ap, ◌∙◌, subst, lit<, rules, arith}
use Rattle.std.specs.Prelude.{unsigned_abs}
use Rattle.std.specs.Int.{w128}
use Rattle.std.proofs.lemmas.Int.{to_z_pos, to_z-of_z}
use Rattle.dmc_ratio.proofs.Wide.{product_is}
use Rattle.dmc_ratio.specs.Ratio.{reduced, max_numer}
use Rattle.dmc_ratio.proofs.ratio.RatioTagTag.steps.Goals as goal

pub returns : goal.returns
returns c =
    let n = c.args.self.numer in
    let k = c.args.k in
    let count : to_z w128 k ≡ pos k = to_z_pos w128 k (omega arith) in
    let numer : to_z w128 (of_z w128 c.numer.result) ≡ n = to_z-of_z w128 c.numer.result (search rules) ∙ c.numer.ensures.value in
    let small : unsigned_abs n ≤ 2 ^ 90 = subst (λ z. unsigned_abs z ≤ max_numer) c.numer.ensures.value c.numer.ensures.bound in
    let product = product_is _ _ (pos k) n (2 ^ 32) (2 ^ 90) count numer (omega arith) small (lit< tt) in
    c.reduce.ensures ∙ ap (λ z. reduced z c.denom.result) product ∙ ap (reduced (pos k *ℤ n)) c.denom.ensures.value
