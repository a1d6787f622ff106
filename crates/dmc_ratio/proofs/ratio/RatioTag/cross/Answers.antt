use Rattle.std.proofs.Common.{◌≡◌, ◌≤◌, ◌^◌, pos, to_z, of_z, ap, ◌∙◌, subst, lit<, rules, arith}
use Rattle.std.specs.Prelude.{unsigned_abs}
use Rattle.std.specs.Int.{w128}
use Rattle.std.proofs.lemmas.Int.{to_z_pos, to_z-of_z, fits_signed_mul}
use Rattle.dmc_ratio.proofs.Wide.{product_is, product_bound}
use Rattle.dmc_ratio.specs.Ratio.{max_numer}
use Rattle.dmc_ratio.proofs.ratio.RatioTag.cross.Goals as goal

pub overflow_mul-result : goal.overflow_mul-result
overflow_mul-result c =
    let numer = to_z-of_z w128 c.numer.result (record { sfits = c.numer.type_inv }) in
    let denom = to_z_pos w128 c.denom.result (omega arith) in
    fits_signed_mul w128 (to_z w128 (of_z w128 c.numer.result)) (to_z w128 c.denom.result) (2 ^ 90) (2 ^ 32) (rw numer c.numer.ensures.bound) (rw denom c.denom.ensures.bound) (lit< tt)

pub returns-clause-value : goal.returns-clause-value
returns-clause-value c =
    let n = c.args.self.numer in
    let d = c.args.other.denom in
    let numer : to_z w128 (of_z w128 c.numer.result) ≡ n = to_z-of_z w128 c.numer.result (search rules) ∙ c.numer.ensures.value in
    let denom : to_z w128 c.denom.result ≡ pos d = to_z_pos w128 c.denom.result (omega arith) ∙ ap pos c.denom.ensures.value in
    let small : unsigned_abs n ≤ 2 ^ 90 = subst (λ z. unsigned_abs z ≤ max_numer) c.numer.ensures.value c.numer.ensures.bound in
    product_is _ _ n (pos d) (2 ^ 90) (2 ^ 32) numer denom small (omega arith) (lit< tt)

pub returns-clause-bound : goal.returns-clause-bound
returns-clause-bound c =
    let n = c.args.self.numer in
    let d = c.args.other.denom in
    let small : unsigned_abs n ≤ 2 ^ 90 = subst (λ z. unsigned_abs z ≤ max_numer) c.numer.ensures.value c.numer.ensures.bound in
    product_bound _ n (pos d) (2 ^ 90) (2 ^ 32) (returns-clause-value c) small (omega arith)
