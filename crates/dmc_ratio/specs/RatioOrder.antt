-- Ratios are in a total order, by cross products.
use Rattle.std.specs.Prelude.{◌≡◌, ℕ, ◌+◌, ◌*◌, ◌<◌, Bool, true, false, ◌&&◌, nat_eq, T, cond, int_lt, ℤ, pos, ◌*ℤ◌, ◌<ℤ◌}
use Rattle.std.specs.declared.cmp.Ordering.{Ordering}
use Rattle.std.specs.declared.cmp.Ordering.TheVariants.{Less, Equal, Greater}
use Rattle.std.specs.Ordering.{int_cmp, int_eq, is_eq}
use Rattle.std.specs.Cmp.{IsTotalOrder, signed_Decides, unsigned_Decides}
use Rattle.std.proofs.Common.{Decides, refl, sym, ap, ◌∙◌, arith}
use Rattle.std.proofs.lemmas.Cmp.{int_ranked, int_cmp_total}
use Rattle.std.proofs.lemmas.Bool.{false≢true}
use Rattle.std.proofs.lemmas.Bool.Decides.{same_from_decides}
use Rattle.std.proofs.lemmas.Int.{ints}
use Rattle.std.proofs.Math.Nat.{mul-lt-mul_of_pos_right, lt_of_mul-lt-mul_right}
use borrow.Author.Differences.{up, down}
use Rattle.dmc_ratio.specs.Lowest.{lowest_pos}
use Rattle.dmc_tag.proofs.Scaled.{up_scaled, down_scaled}
use Rattle.dmc_ratio.specs.Ratio.{Ratio, ratio_ops}
use Rattle.dmc_ratio.specs.RatioExact.{same_value}

-- a/d < b/e and b/e < c/f give a/d < c/f
chain : (a b c : ℤ) (d e f : ℕ) → 0 < d → 0 < f → (a *ℤ pos e) <ℤ (b *ℤ pos d) → (b *ℤ pos f) <ℤ (c *ℤ pos e) → (a *ℤ pos f) <ℤ (c *ℤ pos d)
chain a b c d e f d_some f_some h k =
    let one : up a * e + down b * d < up b * d + down a * e = omega (arith, ints, up_scaled a e, down_scaled a e, up_scaled b d, down_scaled b d) in
    let two : up b * f + down c * e < up c * e + down b * f = omega (arith, ints, up_scaled b f, down_scaled b f, up_scaled c e, down_scaled c e) in
    let first : (up a * e + down b * d) * f < (up b * d + down a * e) * f = mul-lt-mul_of_pos_right one f_some in
    let second : (up b * f + down c * e) * d < (up c * e + down b * f) * d = mul-lt-mul_of_pos_right two d_some in
    let both : (up a * f + down c * d) * e < (up c * d + down a * f) * e = omega arith in
    let less : up a * f + down c * d < up c * d + down a * f = lt_of_mul-lt-mul_right e both in
    omega (arith, ints, up_scaled a f, down_scaled a f, up_scaled c d, down_scaled c d)

-- what Less says
less : (x y : ℤ) → int_cmp x y ≡ Less → x <ℤ y
less x y e = int_ranked x y Less (sym e)

less_from : (x y : ℤ) → x <ℤ y → int_cmp x y ≡ Less
less_from x y h = taken (int_lt x y) (cond (int_lt y x) Greater Equal) h.lt
  where
    taken : (b : Bool) (o : Ordering) → T b → cond b Less o ≡ Less
    taken true o t = refl
    taken false o t = elim t [ ]

pub ratio_total : IsTotalOrder ratio_ops.compare
ratio_total = record {
  antisymm = λ a b. int_cmp_total.antisymm (a.numer *ℤ pos b.denom) (b.numer *ℤ pos a.denom);
  trans = λ a b c p q. less_from _ _ (chain a.numer b.numer c.numer a.denom b.denom c.denom (lowest_pos a.numer a.denom a.lowest) (lowest_pos c.numer c.denom c.lowest) (less _ _ p) (less _ _ q));
  congr = λ a b c p. ap (λ (r : Ratio). ratio_ops.compare r c) (same_value a b (int_ranked _ _ Equal (sym p)));
}

-- what `==` on the two fields computes
abbrev pub ratio_eq : Ratio → Ratio → Bool
ratio_eq x y = int_eq x.numer y.numer && nat_eq x.denom y.denom

left : (a b : Bool) → a && b ≡ true → a ≡ true
left true b e = refl
left false b e = e

right : (a b : Bool) → a && b ≡ true → b ≡ true
right true b e = e
right false b e = absurd (false≢true e)

cross_same : (x y : Ratio) → Decides (ratio_eq x y) (x.numer *ℤ pos y.denom ≡ y.numer *ℤ pos x.denom)
cross_same x y = (
  λ e.
      let numer = (signed_Decides x.numer y.numer).0 (left (int_eq x.numer y.numer) (nat_eq x.denom y.denom) e) in
      let denom = (unsigned_Decides x.denom y.denom).0 (right (int_eq x.numer y.numer) (nat_eq x.denom y.denom) e) in
      ap (λ z. z *ℤ pos y.denom) numer ∙ ap (λ k. y.numer *ℤ pos k) (sym denom),
  λ e.
      let same = same_value x y e in
      ap (λ b. b && nat_eq x.denom y.denom) ((signed_Decides x.numer y.numer).1 (ap (λ (r : Ratio). r.numer) same)) ∙ (unsigned_Decides x.denom y.denom).1 (ap (λ (r : Ratio). r.denom) same),
)

-- both fields are equal exactly if the cross products are
pub ratio_matches_eq : (x y : Ratio) → ratio_eq x y ≡ is_eq (ratio_ops.compare x y)
ratio_matches_eq x y = same_from_decides (ratio_eq x y) (is_eq (ratio_ops.compare x y)) (cross_same x y) (signed_Decides (x.numer *ℤ pos y.denom) (y.numer *ℤ pos x.denom))
