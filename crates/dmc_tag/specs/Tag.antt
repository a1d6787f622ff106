-- The value of a tag: which fraction it represents, and what its operations compute.
use Rattle.std.specs.Prelude.{◌≡◌, ℕ, ◌*◌, ◌<◌, ◌≤◌, ◌↔◌, ℤ, pos, ◌+ℤ◌, ◌-ℤ◌, ◌*ℤ◌, ◌≤ℤ◌, Option, Some, None}
use Rattle.std.specs.declared.cmp.Ordering.{Ordering}
use Rattle.std.specs.declared.cmp.Ordering.TheVariants.{Equal}
use Rattle.std.specs.Ordering.{int_cmp}
use Rattle.dmc_types.specs.Limits.{max_moment}

-- numer/denom
pub record Fraction : Type 0 where
  pub numer : ℤ
  pub denom : ℕ

-- the order of fractions, by cross products
abbrev pub fraction_cmp : Fraction → Fraction → Ordering
fraction_cmp a b = int_cmp (a.numer *ℤ pos b.denom) (b.numer *ℤ pos a.denom)

-- two fractions have one value
abbrev pub IsSame : Fraction → Fraction → Type 0
IsSame a b = a.numer *ℤ pos b.denom ≡ b.numer *ℤ pos a.denom

abbrev pub whole : ℕ → Fraction
whole n = record { numer = pos n; denom = 1 }

-- a whole number, of any sign
abbrev pub integer : ℤ → Fraction
integer z = record { numer = z; denom = 1 }

abbrev pub ratio : ℕ → ℕ → Fraction
ratio n d = record { numer = pos n; denom = d }

abbrev pub sum_of : Fraction → Fraction → Fraction
sum_of a b = record { numer = a.numer *ℤ pos b.denom +ℤ b.numer *ℤ pos a.denom; denom = a.denom * b.denom }

abbrev pub difference_of : Fraction → Fraction → Fraction
difference_of a b = record { numer = a.numer *ℤ pos b.denom -ℤ b.numer *ℤ pos a.denom; denom = a.denom * b.denom }

abbrev pub multiple_of : ℕ → Fraction → Fraction
multiple_of k a = record { numer = pos k *ℤ a.numer; denom = a.denom }

-- what a tag type's operations compute
pub record Tagging (T : Type 0) : Type 0 where
  pub compare : T → T → Ordering
  pub of_moment : ℕ → T
  pub spacing : ℕ → ℕ → Option T
  pub steps : T → ℕ → Option T
  pub plus : T → T → Option T
  pub minus : T → T → Option T
  pub ceil : T → ℤ

-- the tag of exactly this fraction, and none exactly if the fraction is no value
abbrev pub Gives : {T : Type 0} → (T → Fraction) → (Fraction → Type 0) → Option T → Fraction → Type 0
Gives fraction is_value None f = is_value f → ⊥
Gives fraction is_value (Some a) f = is_value f × IsSame (fraction a) f

-- The operations are those of the fractions that the tags represent.
pub record IsExact {T : Type 0} (ops : Tagging T) (fraction : T → Fraction) (is_value : Fraction → Type 0) : Type 0 where
  pub denom : (a : T) → 0 < (fraction a).denom
  pub order : (a b : T) → ops.compare a b ≡ fraction_cmp (fraction a) (fraction b)
  -- tags of one fraction are one tag
  pub same : (a b : T) → ops.compare a b ≡ Equal → a ≡ b
  -- whether a fraction is a value depends on its value alone
  pub same_value : (f g : Fraction) → 0 < f.denom → 0 < g.denom → IsSame f g → is_value f → is_value g
  -- each moment is a value
  pub moments : (n : ℕ) → n ≤ max_moment → is_value (whole n)
  pub of_moment : (n : ℕ) → IsSame (fraction (ops.of_moment n)) (whole n)
  pub spacing : (hz rate : ℕ) → Gives fraction is_value (ops.spacing hz rate) (ratio hz rate)
  pub steps : (a : T) (k : ℕ) → Gives fraction is_value (ops.steps a k) (multiple_of k (fraction a))
  pub plus : (a b : T) → Gives fraction is_value (ops.plus a b) (sum_of (fraction a) (fraction b))
  pub minus : (a b : T) → Gives fraction is_value (ops.minus a b) (difference_of (fraction a) (fraction b))
  -- the least whole number not below
  pub ceil : (a : T) (z : ℤ) → (ops.ceil a ≤ℤ z) ↔ ((fraction a).numer ≤ℤ (z *ℤ pos (fraction a).denom))

-- Every tag is a whole number, and a whole number between two values is a value.
pub record IsWhole {T : Type 0} (fraction : T → Fraction) (is_value : Fraction → Type 0) : Type 0 where
  pub denom : (a : T) → (fraction a).denom ≡ 1
  pub between : (a b c : ℤ) → a ≤ℤ b → b ≤ℤ c → is_value (integer a) → is_value (integer c) → is_value (integer b)
