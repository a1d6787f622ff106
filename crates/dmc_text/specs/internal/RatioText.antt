-- Fractions that are read back.
use Rattle.std.proofs.Common.{◌≡◌, ℕ, true, ℤ, Some, sym, ap, ◌∙◌}
use Rattle.std.specs.Prelude.{unsigned_abs, ◌≤◌, ◌&&◌, nat_le}
use Rattle.std.proofs.lemmas.Bool.{le-leb}
use Rattle.dmc_ratio.specs.Lowest.{over}
use Rattle.dmc_ratio.specs.Ratio.{Ratio, is_small, max_numer, max_denom}
use Rattle.dmc_text.specs.RatioText.{lowest_again, ratio_if_lowest}

pub ratio_if_lowest_again : (a : Ratio) → is_small a ≡ true → ratio_if_lowest a.numer a.denom ≡ Some a
ratio_if_lowest_again a small = lowest_again a.numer a.denom a.lowest small

-- a ratio whose two numbers are within their bounds is the ratio of these two numbers
pub made_again : (a : Ratio) (n : ℤ) (d : ℕ) → n ≡ a.numer → d ≡ a.denom → unsigned_abs n ≤ max_numer → d ≤ max_denom → ratio_if_lowest n d ≡ Some a
made_again a n d n-is d-is over under =
    let small : is_small a ≡ true = ap (λ z. nat_le (unsigned_abs z) max_numer && nat_le a.denom max_denom) (sym n-is)
    ∙ ap (λ k. nat_le (unsigned_abs n) max_numer && nat_le k max_denom) (sym d-is)
    ∙ ap (λ b. b && nat_le d max_denom) (le-leb (unsigned_abs n) max_numer over) ∙ le-leb d max_denom under in
    ap (λ z. ratio_if_lowest z d) n-is ∙ ap (ratio_if_lowest a.numer) d-is ∙ ratio_if_lowest_again a small
