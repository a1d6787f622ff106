-- Products at 128 bits.
use Rattle.std.specs.Prelude.{◌≡◌, ℕ, ◌*◌, ◌^◌, ◌<◌, ◌≤◌, ℤ, ◌*ℤ◌, unsigned_abs}
use Rattle.std.specs.Int.{w128}
use Rattle.std.proofs.Common.{to_z, of_z, sym, ap, ◌∙◌, subst}
use Rattle.std.proofs.lemmas.Int.{to_z-of_z, fits_signed_mul, unsigned_abs-mul}
use Rattle.std.proofs.lemmas.Nat.{mul-le}

-- a product that went to its bits and back, where m and n bound the absolute values
pub product_is : (x y a b : ℤ) (m n : ℕ) → x ≡ a → y ≡ b → unsigned_abs a ≤ m → unsigned_abs b ≤ n → m * n < 2 ^ 127 → to_z w128 (of_z w128 (x *ℤ y)) ≡ a *ℤ b
product_is x y a b m n p q h k l =
    ap (λ z. to_z w128 (of_z w128 (z *ℤ y))) p ∙ ap (λ z. to_z w128 (of_z w128 (a *ℤ z))) q ∙ to_z-of_z w128 (a *ℤ b) (fits_signed_mul w128 a b m n h k l)

pub product_bound : (z a b : ℤ) (m n : ℕ) → z ≡ a *ℤ b → unsigned_abs a ≤ m → unsigned_abs b ≤ n → unsigned_abs z ≤ m * n
product_bound z a b m n e h k = subst (λ (x : ℕ). x ≤ m * n) (sym (ap unsigned_abs e ∙ unsigned_abs-mul a b)) (mul-le (unsigned_abs a) (unsigned_abs b) m n h k)
