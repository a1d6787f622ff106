-- A tick tag in two words: its number plus 2^90.
use Rattle.std.specs.Prelude.{◌≡◌, ℕ, ◌+◌, ◌*◌, ◌/◌, ◌%◌, ◌^◌, ◌<◌, ℤ, pos, ◌+ℤ◌, ◌-ℤ◌, unsigned_abs}
use Rattle.std.proofs.Common.{ap, ◌∙◌, arith}
use Rattle.std.proofs.lemmas.Int.{ints}
use Rattle.std.proofs.lemmas.Nat.{div-mul-add, mod-mul-add}
use Rattle.dmc_tick.specs.Tick.{greatest}

-- how many numbers a word has
abbrev pub word : ℕ
word = 2 ^ 64

-- the number of two words
abbrev pub raised : ℕ → ℕ → ℕ
raised high low = high * word + low

-- the tag that the two words represent
abbrev pub number : ℕ → ℕ → ℤ
number high low = pos (raised high low) -ℤ pos greatest

-- the words of a tag
abbrev pub raised_number : ℤ → ℕ
raised_number z = unsigned_abs (z +ℤ pos greatest)

abbrev pub high_word : ℤ → ℕ
high_word z = raised_number z / word

abbrev pub low_word : ℤ → ℕ
low_word z = raised_number z % word

-- ---- the words of the tag that two words represent are these two

lowered : (n g : ℕ) → unsigned_abs (pos n -ℤ pos g +ℤ pos g) ≡ n
lowered n g = omega (arith, ints)

pub high_is : (high low : ℕ) → low < word → high_word (number high low) ≡ high
high_is high low fits = ap (λ n. n / word) (lowered (raised high low) greatest) ∙ div-mul-add high word low fits

pub low_is : (high low : ℕ) → low < word → low_word (number high low) ≡ low
low_is high low fits = ap (λ n. n % word) (lowered (raised high low) greatest) ∙ mod-mul-add high word low fits
