-- Numbers, digit by digit.
use Rattle.std.proofs.Common.{◌≡◌, ℕ, ◌+◌, ◌<◌, ◌≤◌, Bool, true, false, ◌&&◌, cond, ltb, List, [], ◌∷◌, length, drop, get_or, drop-cons, add-one, refl, sym, ap, ◌∙◌, arith, Option, Some, None, fold}
use Rattle.std.specs.Char.{is_ascii_digit}
use Rattle.std.specs.Str.{all_ascii_digits}
use Rattle.std.proofs.lemmas.Bool.{and_right, ltb-true, ltb-false}
use Rattle.std.proofs.lemmas.List.{drop_all}
use Rattle.dmc_text.specs.Numbers.{with_digit, value, number, is_led}

-- a number below the limit, and the digits of a word behind it
abbrev pub read_on : ℕ → ℕ → List ℕ → Option ℕ
read_on limit n [] = Some n
read_on limit n (b ∷ bs) = cond (is_ascii_digit b && ltb (with_digit n b) limit) (read_on limit (with_digit n b) bs) None

-- digits make no number less
pub value_grows : (n : ℕ) (bs : List ℕ) → n ≤ fold with_digit n bs
value_grows n [] = omega arith
value_grows n (b ∷ bs) = let more = value_grows (with_digit n b) bs in omega arith

abbrev whole : ℕ → ℕ → List ℕ → Option ℕ
whole limit n bs = cond (all_ascii_digits bs && ltb (fold with_digit n bs) limit) (Some (fold with_digit n bs)) None

read_step : (limit n b : ℕ) (bs : List ℕ) (d l : Bool) → is_ascii_digit b ≡ d → ltb (with_digit n b) limit ≡ l
    → (with_digit n b < limit → read_on limit (with_digit n b) bs ≡ whole limit (with_digit n b) bs)
    → read_on limit n (b ∷ bs) ≡ whole limit n (b ∷ bs)
read_step limit n b bs false l d-is l-is ih = rw d-is refl
read_step limit n b bs true true d-is l-is ih = rw (d-is, l-is) (ih (ltb-true _ _ l-is))
read_step limit n b bs true false d-is l-is ih =
    let grows = value_grows (with_digit n b) bs in
    let past : limit ≤ with_digit n b = ltb-false _ _ l-is in
    let no : ltb (fold with_digit (with_digit n b) bs) limit ≡ false = grind arith in
    rw (d-is, l-is, and_right _ _ no) refl

-- reading on is the value of all digits, if it is below the limit
pub reads_whole : (limit n : ℕ) (bs : List ℕ) → n < limit → read_on limit n bs ≡ whole limit n bs
reads_whole limit n [] h = let yes : ltb n limit ≡ true = grind arith in rw yes refl
reads_whole limit n (b ∷ bs) h = read_step limit n b bs (is_ascii_digit b) (ltb (with_digit n b) limit) refl refl (reads_whole limit (with_digit n b) bs)

-- a word that begins as a number does reads so from its first digit on
pub reads_number : (limit : ℕ) (word : List ℕ) → is_led word ≡ true → 0 < limit → read_on limit 0 word ≡ number limit word
reads_number limit word led some = reads_whole limit 0 word some ∙ sym (ap (λ b. cond ((b && all_ascii_digits word) && ltb (value word) limit) (Some (value word)) None) led)

-- and another is none
pub no_number : (limit : ℕ) (word : List ℕ) → is_led word ≡ false → None ≡ number limit word
no_number limit word led = sym (ap (λ b. cond ((b && all_ascii_digits word) && ltb (value word) limit) (Some (value word)) None) led)

-- ---- from a place in the word on

digit_step : (limit n i : ℕ) (word : List ℕ) (d l : Bool) → i < length word → is_ascii_digit (get_or word i 0) ≡ d → ltb (with_digit n (get_or word i 0)) limit ≡ l
    → read_on limit n (drop i word) ≡ cond (d && l) (read_on limit (with_digit n (get_or word i 0)) (drop (i + 1) word)) None
digit_step limit n i word d l h d-is l-is =
    rw (add-one, drop-cons word i 0 h, d-is, l-is) refl

-- what is no digit ends a word that is no number
pub no_digit : (limit n i : ℕ) (word : List ℕ) (o : Option ℕ) → read_on limit n (drop i word) ≡ o → i < length word → is_ascii_digit (get_or word i 0) ≡ false → None ≡ o
no_digit limit n i word o e h other = sym (digit_step limit n i word false (ltb (with_digit n (get_or word i 0)) limit) h other refl) ∙ e

-- and so does a digit with which the number reaches the limit
pub too_much : (limit n i : ℕ) (word : List ℕ) (o : Option ℕ) → read_on limit n (drop i word) ≡ o → i < length word → is_ascii_digit (get_or word i 0) ≡ true → limit ≤ with_digit n (get_or word i 0) → None ≡ o
too_much limit n i word o e h digit past =
    let no : ltb (with_digit n (get_or word i 0)) limit ≡ false = grind arith in
    sym (digit_step limit n i word true false h digit no) ∙ e

-- any other digit is read
pub next_digit : (limit n i m : ℕ) (word : List ℕ) (o : Option ℕ) → read_on limit n (drop i word) ≡ o → i < length word → is_ascii_digit (get_or word i 0) ≡ true → m ≡ with_digit n (get_or word i 0) → m < limit
    → read_on limit m (drop (i + 1) word) ≡ o
next_digit limit n i m word o e h digit m-is below =
    let yes : ltb (with_digit n (get_or word i 0)) limit ≡ true = grind arith in
    ap (λ k. read_on limit k (drop (i + 1) word)) m-is ∙ sym (digit_step limit n i word true true h digit yes) ∙ e

-- at its end the word is read
pub all_read : (limit n i : ℕ) (word : List ℕ) (o : Option ℕ) → read_on limit n (drop i word) ≡ o → length word ≤ i → Some n ≡ o
all_read limit n i word o e h = sym (ap (read_on limit n) (drop_all i word h)) ∙ e
