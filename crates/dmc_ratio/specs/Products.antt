-- An integer as the difference of two naturals, `up` less `down`.
use Rattle.std.specs.Prelude.{◌≡◌, ℕ, zero, suc, pos, neg_ℤ}
use Rattle.std.proofs.Common.{refl}
use borrow.Author.Differences.{up, down}

pub up_neg : (n : ℕ) → up (neg_ℤ (pos n)) ≡ 0
up_neg zero = refl
up_neg (suc n) = refl

pub down_neg : (n : ℕ) → down (neg_ℤ (pos n)) ≡ n
down_neg zero = refl
down_neg (suc n) = refl
