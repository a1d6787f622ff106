-- Texts that were written are read again.
use Rattle.std.proofs.Common.{◌≡◌, ℕ, zero, suc, ◌+◌, ◌%◌, ◌^◌, ◌<◌, ◌≢◌, add-one, length-append, Bool, true, false, ◌&&◌, not, cond, ltb, leb, eqb, List, [], ◌∷◌, ◌++◌, refl, sym, ap, ◌∙◌, arith, length, take, drop, Some, None, fold, ℤ, pos, negsuc, position, rules, option_and_then}
use lib.Signed.{mag}
use Rattle.std.specs.List.{filter, slice_split, onto_first, list_all, join_with_byte, position_or_len}
use Rattle.std.specs.Char.{is_ascii_digit}
use Rattle.std.specs.Str.{all_ascii_digits}
use Rattle.std.specs.Fmt.{decimal, signed_decimal}
use Rattle.std.proofs.lemmas.Bool.{eqb-true, eqb-false}
use Rattle.std.proofs.lemmas.Bool.Decides.{nat_tests}
use Rattle.std.proofs.lemmas.Fmt.{decimal_is_IsNumeral_wide, decimal_by_steps_wide, decimal_digit}
use Rattle.std.proofs.lemmas.Str.Parse.{IsNumeralModel, numerals_by_fold, tells_all_ascii_digits}
use Rattle.std.proofs.lemmas.List.Splits.{slice_split-cons_no}
use Rattle.dmc_text.specs.Words.{is_space, is_word, words}
use Rattle.dmc_text.specs.Tags.{fraction_text, from_zero, below_zero, signed, is_slash, over, cut, fraction_of}
use Rattle.std.proofs.lemmas.List.{take_at}
use Rattle.dmc_text.specs.Numbers.{is_led, with_digit, value, number}
pub use Rattle.std.proofs.lemmas.Bool.{and_parts}
use Rattle.std.proofs.lemmas.Bool.{not-true}

-- ---- words

abbrev pub is_other : ℕ → Bool
is_other b = not (is_space b)

-- a word without a space
abbrev pub is_plain : List ℕ → Bool
is_plain w = is_word w && list_all is_other w

split_front : (w rest : List ℕ) → list_all is_other w ≡ true → slice_split is_space (w ++ 32 ∷ rest) ≡ w ∷ slice_split is_space rest
split_front [] rest h = refl
split_front (b ∷ bs) rest h =
    let p = and_parts _ _ h in
    slice_split-cons_no is_space b (bs ++ 32 ∷ rest) (not-true _ p.0) ∙ ap (onto_first b) (split_front bs rest p.1)

split_last : (w : List ℕ) → list_all is_other w ≡ true → slice_split is_space w ≡ w ∷ []
split_last [] h = refl
split_last (b ∷ bs) h =
    let p = and_parts _ _ h in
    slice_split-cons_no is_space b bs (not-true _ p.0) ∙ ap (onto_first b) (split_last bs p.1)

-- words that are separated by one space each are read again
pub words_joined : (ws : List (List ℕ)) → list_all is_plain ws ≡ true → words (join_with_byte 32 ws) ≡ ws
words_joined [] h = refl
words_joined (w ∷ []) h =
    let p = and_parts _ _ h in
    let q = and_parts _ _ p.0 in
    ap (filter is_word) (split_last w q.1) ∙ ap (λ b. cond b (w ∷ []) []) q.0
words_joined (w ∷ v ∷ ws) h =
    let p = and_parts _ _ h in
    let q = and_parts _ _ p.0 in
    ap (filter is_word) (split_front w (join_with_byte 32 (v ∷ ws)) q.1)
    ∙ ap (λ b. cond b (w ∷ words (join_with_byte 32 (v ∷ ws))) (words (join_with_byte 32 (v ∷ ws)))) q.0
    ∙ ap (λ vs. w ∷ vs) (words_joined (v ∷ ws) p.1)

-- ---- numbers

own : IsNumeralModel (λ ds. all_ascii_digits ds ≡ true) (λ ds. fold with_digit 0 ds)
own = numerals_by_fold _ tells_all_ascii_digits (λ n ds. fold with_digit n ds) (search rules)

pub decimal_digits : (n : ℕ) → n < 10 ^ 64 → all_ascii_digits (decimal n) ≡ true
decimal_digits n h = own.from (decimal n) (decimal_is_IsNumeral_wide n h).0.1

pub decimal_value : (n : ℕ) → n < 10 ^ 64 → value (decimal n) ≡ n
decimal_value n h = let d = decimal_is_IsNumeral_wide n h in own.same (decimal n) d.0.1 ∙ d.1

abbrev HeadAbove : List ℕ → Type 0
HeadAbove [] = ⊥
HeadAbove (b ∷ bs) = 48 < b

head_kept : (ds : List ℕ) (d : ℕ) → HeadAbove ds → HeadAbove (ds ++ (d ∷ []))
head_kept [] d h = absurd h
head_kept (b ∷ bs) d h = h

-- the first digit of a number from 1 on is no 0
head_above : (n : ℕ) → n < 10 ^ 64 → 0 < n → HeadAbove (decimal n)
head_above = decimal_by_steps_wide (λ n ds. 0 < n → HeadAbove ds) (λ n small some. omega arith)
    (λ n ds large front some. head_kept ds (48 + n % 10) (front (omega arith)))

led_above : (ds : List ℕ) → HeadAbove ds → is_led ds ≡ true
led_above [] h = absurd h
led_above (b ∷ bs) h = let no : eqb b 48 ≡ false = grind (arith, nat_tests) in rw no refl

pub decimal_led : (n : ℕ) → n < 10 ^ 64 → is_led (decimal n) ≡ true
decimal_led zero h = ap is_led (decimal_digit 0 (omega arith))
decimal_led (suc n) h = led_above (decimal (suc n)) (head_above (suc n) h (omega arith))

-- a number that was written is read again
pub number_again : (limit n : ℕ) → n < limit → n < 10 ^ 64 → number limit (decimal n) ≡ Some n
number_again limit n below h =
    let yes : ltb n limit ≡ true = grind (arith, nat_tests) in
    rw (decimal_led n h, decimal_digits n h, decimal_value n h, yes) refl

digits_other : (ds : List ℕ) → all_ascii_digits ds ≡ true → list_all is_other ds ≡ true
digits_other [] h = refl
digits_other (b ∷ bs) h =
    let p = and_parts _ _ h in
    let low = and_parts (leb 48 b) (leb b 57) p.0 in
    let no : eqb b 32 ≡ false = grind (arith, nat_tests) in
    rw (no, digits_other bs p.1) refl

some_word : (ds : List ℕ) → 0 < length ds → is_word ds ≡ true
some_word [] h = absurd (omega arith)
some_word (b ∷ bs) h = refl

pub decimal_plain : (n : ℕ) → n < 10 ^ 64 → is_plain (decimal n) ≡ true
decimal_plain n h = rw (some_word (decimal n) (decimal_is_IsNumeral_wide n h).0.0, digits_other (decimal n) (decimal_digits n h)) refl

-- ---- tags

split_first : (p : ℕ → Bool) (front : List ℕ) (b : ℕ) (back : List ℕ) → list_all (λ c. not (p c)) front ≡ true → p b ≡ true → position_or_len p (front ++ b ∷ back) ≡ length front
split_first p [] b back h e = ap (λ t. cond (not t) (1 + position_or_len p back) 0) e
split_first p (c ∷ cs) b back h e =
    let one : 1 + length cs ≡ suc (length cs) = omega arith in
    let q = and_parts _ _ h in
    ap (λ t. cond t (1 + position_or_len p (cs ++ b ∷ back)) 0) q.0 ∙ ap (λ k. 1 + k) (split_first p cs b back q.1 e) ∙ one

pub none_first : (p : ℕ → Bool) (bs : List ℕ) → list_all (λ c. not (p c)) bs ≡ true → position_or_len p bs ≡ length bs
none_first p [] h = refl
none_first p (c ∷ cs) h =
    let one : 1 + length cs ≡ suc (length cs) = omega arith in
    let q = and_parts _ _ h in
    ap (λ t. cond t (1 + position_or_len p cs) 0) q.0 ∙ ap (λ k. 1 + k) (none_first p cs q.1) ∙ one

digits_solid : (ds : List ℕ) → all_ascii_digits ds ≡ true → list_all (λ c. not (is_slash c)) ds ≡ true
digits_solid [] h = refl
digits_solid (b ∷ bs) h =
    let p = and_parts (is_ascii_digit b) (all_ascii_digits bs) h in
    let low = and_parts (leb 48 b) (leb b 57) p.0 in
    let no : eqb b 47 ≡ false = grind (arith, nat_tests) in
    rw (no, digits_solid bs p.1) refl

-- how large a whole number is
abbrev pub Fits128 : ℤ → Type 0
Fits128 z = mag z < 2 ^ 127

signed_solid : (z : ℤ) → Fits128 z → list_all (λ c. not (is_slash c)) (signed_decimal z) ≡ true
signed_solid (pos n) h = digits_solid (decimal n) (decimal_digits n (omega arith))
signed_solid (negsuc m) h = digits_solid (decimal (suc m)) (decimal_digits (suc m) (omega arith))

signed_digits : (limit : ℕ) (ds : List ℕ) (n : ℕ) → is_led ds ≡ true → all_ascii_digits ds ≡ true → number (2 ^ 128) ds ≡ Some n → signed ds ≡ option_and_then from_zero (Some n)
unfolding signed
signed_digits limit [] n led digits e = absurd (cc)
signed_digits limit (b ∷ bs) n led digits e =
    let p = and_parts (is_ascii_digit b) (all_ascii_digits bs) digits in
    let low = and_parts (leb 48 b) (leb b 57) p.0 in
    let no : eqb b 45 ≡ false = grind (arith, nat_tests) in
    ap (λ t. cond t (option_and_then below_zero (number (2 ^ 128) bs)) (option_and_then from_zero (number (2 ^ 128) (b ∷ bs)))) no ∙ ap (option_and_then from_zero) e

-- a whole number that was written is read again
pub signed_again : (z : ℤ) → Fits128 z → signed (signed_decimal z) ≡ Some z
unfolding signed
signed_again (pos n) h =
    let yes : ltb n (2 ^ 127) ≡ true = grind (arith, nat_tests) in
    signed_digits 0 (decimal n) n (decimal_led n (omega arith)) (decimal_digits n (omega arith)) (number_again (2 ^ 128) n (omega arith) (omega arith))
    ∙ ap (λ t. cond t (Some (pos n)) None) yes
signed_again (negsuc m) h =
    let yes : ltb m (2 ^ 127) ≡ true = grind (arith, nat_tests) in
    ap (option_and_then below_zero) (number_again (2 ^ 128) (suc m) (omega arith) (omega arith)) ∙ ap (λ t. cond t (Some (negsuc m)) None) yes

place_none : (p : ℕ → Bool) (bs : List ℕ) → list_all (λ c. not (p c)) bs ≡ true → position p bs ≡ None
place_none p bs h =
    let far = none_first p bs h in
    let no : ltb (position_or_len p bs) (length bs) ≡ false = grind (arith, nat_tests) in
    ap (λ t. cond t (Some (position_or_len p bs)) None) no

place_some : (p : ℕ → Bool) (front : List ℕ) (b : ℕ) (back : List ℕ) → list_all (λ c. not (p c)) front ≡ true → p b ≡ true → position p (front ++ b ∷ back) ≡ Some (length front)
place_some p front b back h e =
    let at = split_first p front b back h e in
    let len = length-append front (b ∷ back) in
    let yes : ltb (position_or_len p (front ++ b ∷ back)) (length (front ++ b ∷ back)) ≡ true = grind (arith, nat_tests) in
    ap (λ t. cond t (Some (position_or_len p (front ++ b ∷ back))) None) yes ∙ ap Some at

-- the parts of a tag that were written are read again
over_again : (n : ℤ) (d : ℕ) (b : Bool) → eqb d 1 ≡ b → Fits128 n → 0 < d → d < 2 ^ 64 → fraction_of (fraction_text n d) ≡ Some (n, d)
unfolding fraction_of
over_again n d true e h some small =
    let one : d ≡ 1 = eqb-true d 1 e in
    ap (λ t. fraction_of (cond t (signed_decimal n) (signed_decimal n ++ (47 ∷ decimal d)))) e
    ∙ ap (cut (signed_decimal n)) (place_none is_slash (signed_decimal n) (signed_solid n h))
    ∙ ap (option_and_then (λ z. Some (z, 1))) (signed_again n h)
    ∙ ap (λ k. Some (n, k)) (sym one)
over_again n d false e h some small =
    let other : d ≢ 1 = eqb-false d 1 e in
    let yes : ltb 1 d ≡ true = grind (arith, nat_tests) in
    let text = signed_decimal n ++ (47 ∷ decimal d) in
    let front : take (length (signed_decimal n)) text ≡ signed_decimal n = take_at (signed_decimal n) (47 ∷ decimal d) (length (signed_decimal n)) refl in
    let back : drop (length (signed_decimal n) + 1) text ≡ decimal d = drop_past (signed_decimal n) 47 (decimal d) in
    ap (λ t. fraction_of (cond t (signed_decimal n) text)) e
    ∙ ap (cut text) (place_some is_slash (signed_decimal n) 47 (decimal d) (signed_solid n h) refl)
    ∙ ap (λ w. option_and_then (λ z. option_and_then (over z) (number (2 ^ 64) (drop (length (signed_decimal n) + 1) text))) (signed w)) front
    ∙ ap (λ w. option_and_then (λ z. option_and_then (over z) (number (2 ^ 64) w)) (signed (signed_decimal n))) back
    ∙ ap (option_and_then (λ z. option_and_then (over z) (number (2 ^ 64) (decimal d)))) (signed_again n h)
    ∙ ap (option_and_then (over n)) (number_again (2 ^ 64) d small (omega arith))
    ∙ ap (λ t. cond t (Some (n, d)) None) yes
  where
    drop_past : (xs : List ℕ) (b : ℕ) (ys : List ℕ) → drop (length xs + 1) (xs ++ b ∷ ys) ≡ ys
    drop_past xs b ys = rw add-one (past xs b ys)
      where
        past : (xs : List ℕ) (b : ℕ) (ys : List ℕ) → drop (suc (length xs)) (xs ++ b ∷ ys) ≡ ys
        past [] b ys = refl
        past (x ∷ xs) b ys = past xs b ys

pub fraction_again : (n : ℤ) (d : ℕ) → Fits128 n → 0 < d → d < 2 ^ 64 → fraction_of (fraction_text n d) ≡ Some (n, d)
fraction_again n d = over_again n d (eqb d 1) refl
