-- Whole numbers times a natural number, and how their order stays.
use Rattle.std.proofs.Common.{◌≡◌, ℕ, suc, ◌+◌, ◌*◌, ◌<◌, ◌≤◌, refl, sym, ap, ◌∙◌, arith}
use Rattle.std.specs.Prelude.{ℤ, pos, negsuc, ◌+ℤ◌, ◌-ℤ◌, ◌*ℤ◌, ◌≤ℤ◌, ◌<ℤ◌, neg_ℤ}
use Rattle.std.specs.declared.cmp.Ordering.{Ordering}
use Rattle.std.specs.declared.cmp.Ordering.TheVariants.{Less, Equal, Greater}
use Rattle.std.specs.Ordering.{int_cmp}
use Rattle.std.specs.Cmp.{int_cmp_is}
use Rattle.std.specs.Ordering.{is_gt}
use Rattle.std.specs.Prelude.{false}
use Rattle.std.proofs.lemmas.Int.{ints, by_lt_z}
use Rattle.std.proofs.lemmas.Cmp.{int_ranked}
use Rattle.std.proofs.Math.Nat.{mul-le-mul_left}
use borrow.Author.Differences.{up, down, same_in, product_is, sum_is_lem}

pub up_scaled : (z : ℤ) (d : ℕ) → up (z *ℤ pos d) ≡ up z * d
up_scaled z d = let e = product_is z (pos d) in omega arith

pub down_scaled : (z : ℤ) (d : ℕ) → down (z *ℤ pos d) ≡ down z * d
down_scaled z d = let e = product_is z (pos d) in omega arith

pub scaled_twice : (z : ℤ) (d e : ℕ) → (z *ℤ pos d) *ℤ pos e ≡ z *ℤ pos (d * e)
scaled_twice z d e =
    let front : up ((z *ℤ pos d) *ℤ pos e) ≡ up z * d * e = up_scaled (z *ℤ pos d) e ∙ ap (λ n. n * e) (up_scaled z d) in
    let back : down ((z *ℤ pos d) *ℤ pos e) ≡ down z * d * e = down_scaled (z *ℤ pos d) e ∙ ap (λ n. n * e) (down_scaled z d) in
    same_in _ _ (omega (arith, up_scaled z (d * e), down_scaled z (d * e)))

pub scaled_swapped : (z : ℤ) (d e : ℕ) → (z *ℤ pos d) *ℤ pos e ≡ (z *ℤ pos e) *ℤ pos d
scaled_swapped z d e = scaled_twice z d e ∙ ap (λ n. z *ℤ pos n) (omega arith) ∙ sym (scaled_twice z e d)

pub times_one : (z : ℤ) → z *ℤ pos 1 ≡ z
times_one (pos n) = ap pos (omega arith)
times_one (negsuc n) = let e : suc n * 1 ≡ suc n = omega arith in ap (λ m. neg_ℤ (pos m)) e

pub scaled_sum : (x y : ℤ) (d : ℕ) → (x +ℤ y) *ℤ pos d ≡ x *ℤ pos d +ℤ y *ℤ pos d
scaled_sum x y d =
    let parts : (up (x +ℤ y) + down x + down y) * d ≡ (down (x +ℤ y) + up x + up y) * d = ap (λ n. n * d) (sum_is_lem x y) in
    same_in _ _ (omega (arith, up_scaled (x +ℤ y) d, down_scaled (x +ℤ y) d, sum_is_lem (x *ℤ pos d) (y *ℤ pos d), up_scaled x d, down_scaled x d, up_scaled y d, down_scaled y d))

pub scaled_negative : (y : ℤ) (d : ℕ) → neg_ℤ y *ℤ pos d ≡ neg_ℤ (y *ℤ pos d)
scaled_negative y d = omega (arith, ints, up_scaled (neg_ℤ y) d, down_scaled (neg_ℤ y) d, up_scaled y d, down_scaled y d, ap (λ n. n * d) (neg_up y), ap (λ n. n * d) (neg_down y)) where
  neg_up : (z : ℤ) → up (neg_ℤ z) ≡ down z
  neg_up z = omega (arith, ints)

  neg_down : (z : ℤ) → down (neg_ℤ z) ≡ up z
  neg_down z = omega (arith, ints)

pub scaled_difference : (x y : ℤ) (d : ℕ) → (x -ℤ y) *ℤ pos d ≡ x *ℤ pos d -ℤ y *ℤ pos d
scaled_difference x y d = scaled_sum x (neg_ℤ y) d ∙ ap (λ z. x *ℤ pos d +ℤ z) (scaled_negative y d)

pub scaled_lt : (x y : ℤ) (d : ℕ) → 0 < d → x <ℤ y → (x *ℤ pos d) <ℤ (y *ℤ pos d)
scaled_lt x y d some h =
    let lt : suc (up x + down y) ≤ up y + down x = omega (arith, ints) in
    let s : d * suc (up x + down y) ≤ d * (up y + down x) = mul-le-mul_left d lt in
    omega (arith, ints, up_scaled x d, down_scaled x d, up_scaled y d, down_scaled y d)

-- the order of two numbers is that of their multiples
pub scaled_cmp : (x y : ℤ) (d : ℕ) → 0 < d → int_cmp x y ≡ int_cmp (x *ℤ pos d) (y *ℤ pos d)
scaled_cmp x y d some = at (int_cmp x y) refl where
  at : (r : Ordering) → r ≡ int_cmp x y → r ≡ int_cmp (x *ℤ pos d) (y *ℤ pos d)
  at Less e = int_cmp_is _ _ Less (scaled_lt x y d some (int_ranked x y Less e))
  at Equal e = int_cmp_is _ _ Equal (ap (λ z. z *ℤ pos d) (int_ranked x y Equal e))
  at Greater e = int_cmp_is _ _ Greater (scaled_lt y x d some (int_ranked x y Greater e))

less_lt : (x y z : ℤ) → x <ℤ y → (x -ℤ z) <ℤ (y -ℤ z)
less_lt x y z h = omega (arith, ints)

-- and that of their differences from a third
pub less_cmp : (x y z : ℤ) → int_cmp x y ≡ int_cmp (x -ℤ z) (y -ℤ z)
less_cmp x y z = at (int_cmp x y) refl where
  at : (r : Ordering) → r ≡ int_cmp x y → r ≡ int_cmp (x -ℤ z) (y -ℤ z)
  at Less e = int_cmp_is _ _ Less (less_lt x y z (int_ranked x y Less e))
  at Equal e = int_cmp_is _ _ Equal (ap (λ w. w -ℤ z) (int_ranked x y Equal e))
  at Greater e = int_cmp_is _ _ Greater (less_lt y x z (int_ranked x y Greater e))

-- the order of two numbers, as a test and as a proposition
pub not_above : (x y : ℤ) (r : Ordering) → r ≡ int_cmp x y → x ≤ℤ y → is_gt r ≡ false
not_above x y Less e h = refl
not_above x y Equal e h = refl
not_above x y Greater e h = let above = int_ranked x y Greater e in absurd (omega (arith, ints))

-- ---- signs

pub zero_of : (z : ℤ) (d : ℕ) → z *ℤ pos 1 ≡ pos 0 *ℤ pos d → z ≡ pos 0
zero_of z d e = omega (arith, ints, up_scaled z 1, down_scaled z 1, up_scaled (pos 0) d, down_scaled (pos 0) d)

pub scaled_le : (x y : ℤ) (d : ℕ) → x ≤ℤ y → (x *ℤ pos d) ≤ℤ (y *ℤ pos d)
scaled_le x y d h =
    let le : up x + down y ≤ up y + down x = omega (arith, ints) in
    let s : d * (up x + down y) ≤ d * (up y + down x) = mul-le-mul_left d le in
    omega (arith, ints, up_scaled x d, down_scaled x d, up_scaled y d, down_scaled y d)

-- a factor above 0 is taken off both sides
pub unscaled_le : (x y : ℤ) (d : ℕ) → 0 < d → (x *ℤ pos d) ≤ℤ (y *ℤ pos d) → x ≤ℤ y
unscaled_le x y d some h = by_lt_z y x (λ lt. absurd (above lt)) (λ le. le) where
  above : y <ℤ x → ⊥
  above lt = let back = scaled_lt y x d some lt in omega (arith, ints)

pub cancelled : (x y : ℤ) (d : ℕ) → 0 < d → x *ℤ pos d ≡ y *ℤ pos d → x ≡ y
cancelled x y d some e =
    let up = unscaled_le x y d some (omega (arith, ints)) in
    let down = unscaled_le y x d some (omega (arith, ints)) in
    omega (arith, ints)

pub at_least_zero : (z : ℤ) (d : ℕ) → 0 < d → pos 0 ≤ℤ (z *ℤ pos d) → pos 0 ≤ℤ z
at_least_zero z d some h =
    let zero : pos 0 *ℤ pos d ≡ pos 0 = omega (arith, ints, up_scaled (pos 0) d, down_scaled (pos 0) d) in
    unscaled_le (pos 0) z d some (omega (arith, ints))

pub zero_scaled : (z : ℤ) (d : ℕ) → pos 0 ≤ℤ z → pos 0 ≤ℤ (z *ℤ pos d)
zero_scaled z d h =
    let s = scaled_le (pos 0) z d h in
    omega (arith, ints, up_scaled (pos 0) d, down_scaled (pos 0) d)
