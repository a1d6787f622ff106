-- The texts of tags: a fraction N, or N/D.
use Rattle.std.specs.Prelude.{ℕ, zero, suc, ◌+◌, ◌^◌, ◌==◌, ℤ, pos, negsuc, Bool, List, [], ◌∷◌, ◌++◌, take, drop, Option, Some, None, option_and_then, position, nat_lt, if◌then◌else◌, codes}
use Rattle.std.specs.Fmt.{decimal, signed_decimal}
use Rattle.dmc_text.specs.Numbers.{number}

-- ---- writing

-- N if D is 1, and otherwise N/D
abbrev pub fraction_text : ℤ → ℕ → List ℕ
fraction_text n d = if d == 1 then signed_decimal n else signed_decimal n ++ (codes "/" ++ decimal d)

-- ---- reading

-- a whole number of 128 bits that is not negative
abbrev pub from_zero : ℕ → Option ℤ
from_zero m = if nat_lt m (2 ^ 127) then Some (pos m) else None

-- a whole number of this absolute value below 0
abbrev pub below_zero : ℕ → Option ℤ
below_zero zero = None
below_zero (suc m) = if nat_lt m (2 ^ 127) then Some (negsuc m) else None

-- a number, or `-` and a number that is not 0
unfoldable pub signed : List ℕ → Option ℤ
signed [] = None
signed (b ∷ bs) = if b == 45 then option_and_then below_zero (number (2 ^ 128) bs) else option_and_then from_zero (number (2 ^ 128) (b ∷ bs))

abbrev pub is_slash : ℕ → Bool
is_slash b = b == 47

-- a denominator that is written is 2 or more
abbrev pub over : ℤ → ℕ → Option (ℤ × ℕ)
over n d = if nat_lt 1 d then Some (n, d) else None

-- what is before the slash, and after it; without a slash the denominator is 1
abbrev pub cut : List ℕ → Option ℕ → Option (ℤ × ℕ)
cut word None = option_and_then (λ n. Some (n, 1)) (signed word)
cut word (Some i) = option_and_then (λ n. option_and_then (over n) (number (2 ^ 64) (drop (i + 1) word))) (signed (take i word))

unfoldable pub fraction_of : List ℕ → Option (ℤ × ℕ)
fraction_of word = cut word (position is_slash word)
