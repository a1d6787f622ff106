-- The numbers of a line.
use Rattle.std.specs.Prelude.{ℕ, ◌+◌, ◌-◌, ◌*◌, ◌==◌, Bool, true, false, ◌&&◌, ◌||◌, not, List, [], ◌∷◌, Option, Some, None, nat_lt, fold, if◌then◌else◌}
use Rattle.std.specs.Str.{all_ascii_digits}

abbrev pub is_empty : List ℕ → Bool
is_empty [] = true
is_empty (b ∷ bs) = false

-- a number has no leading 0
abbrev pub is_led : List ℕ → Bool
is_led [] = false
is_led (b ∷ bs) = not (b == 48) || is_empty bs

-- `0`, or digits of which the first is not 0
abbrev pub is_numeral : List ℕ → Bool
is_numeral word = is_led word && all_ascii_digits word

-- one more digit after a number
abbrev pub with_digit : ℕ → ℕ → ℕ
with_digit n b = n * 10 + (b - 48)

-- the value of digits
abbrev pub value : List ℕ → ℕ
value ds = fold with_digit 0 ds

-- the number that a word spells, if it is below the limit
abbrev pub number : ℕ → List ℕ → Option ℕ
number limit word = if is_numeral word && nat_lt (value word) limit then Some (value word) else None
