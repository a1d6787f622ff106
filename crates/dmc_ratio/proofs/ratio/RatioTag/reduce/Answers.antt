use Rattle.std.proofs.Common.{ℕ, ◌/◌, ◌<◌, ◌≤◌, subst, ⊎_elim, inl, inr, refl, rules, arith}
use Rattle.std.specs.Prelude.{unsigned_abs}
use Rattle.std.specs.Int.{IsGcd}
use Rattle.dmc_ratio.specs.Ratio.{max_numer}
use Rattle.dmc_ratio.proofs.Reduce.{divisor_pos, lowest_by, reduced_some, reduced_none, size_by, numer_by}
use Rattle.dmc_ratio.proofs.ratio.RatioTag.reduce.Goals as goal

pub nonzero_div-least_size : goal.nonzero_div-least_size
nonzero_div-least_size c = divisor_pos _ _ _ c.gcd-common.ensures (omega arith)

pub nonzero_div-least_denom : goal.nonzero_div-least_denom
nonzero_div-least_denom c = divisor_pos _ _ _ c.gcd-common.ensures (omega arith)

pub returns-then-least_size-gt-MAX_NUMER : goal.returns-then-least_size-gt-MAX_NUMER
returns-then-least_size-gt-MAX_NUMER c =
    let n = c.args.numer in
    let g = c.gcd-common.result in
    let size = size_by n c.unsigned_abs-size.result c.ranges.numer c.unsigned_abs-size.ensures.value in
    let is : IsGcd (unsigned_abs n) c.args.denom g = subst (λ (x : ℕ). IsGcd x c.args.denom g) size c.gcd-common.ensures in
    reduced_none n c.args.denom g is (omega arith) (⊎_elim (λ h. inl (subst (λ (x : ℕ). max_numer < x / g) size h)) (λ h. inr h.1) c.then-least_size-gt-MAX_NUMER.either)

pub invariant_of-result : goal.invariant_of-result
invariant_of-result c =
    let n = c.args.numer in
    let g = c.gcd-common.result in
    let size = size_by n c.unsigned_abs-size.result c.ranges.numer c.unsigned_abs-size.ensures.value in
    let is : IsGcd (unsigned_abs n) c.args.denom g = subst (λ (x : ℕ). IsGcd x c.args.denom g) size c.gcd-common.ensures in
    let numer = numer_by n c.with_sign.result c.unsigned_abs-size.result g c.ranges.numer (search rules) size c.with_sign.ensures in
    (lowest_by n _ c.args.denom _ g is (omega arith) numer refl, tt)

pub returns : goal.returns
returns c =
    let n = c.args.numer in
    let g = c.gcd-common.result in
    let size = size_by n c.unsigned_abs-size.result c.ranges.numer c.unsigned_abs-size.ensures.value in
    let is : IsGcd (unsigned_abs n) c.args.denom g = subst (λ (x : ℕ). IsGcd x c.args.denom g) size c.gcd-common.ensures in
    let numer = numer_by n c.with_sign.result c.unsigned_abs-size.result g c.ranges.numer (search rules) size c.with_sign.ensures in
    let small : unsigned_abs n / g ≤ max_numer = subst (λ (x : ℕ). x / g ≤ max_numer) size c.if-least_size-gt-MAX_NUMER.false in
    reduced_some n c.args.denom g _ is (omega arith) numer refl small (omega arith)

pub returns-then-denom-eq0 : goal.returns-then-denom-eq0
returns-then-denom-eq0 c = search rules
