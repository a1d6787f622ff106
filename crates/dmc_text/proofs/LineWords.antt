-- The words of a line: how they are put together, and that the line is clean.
use Rattle.std.proofs.Common.{◌≡◌, ℕ, ◌+◌, ◌^◌, ◌<◌, ◌≤◌, Bool, true, false, ◌&&◌, leb, eqb, List, [], ◌∷◌, ◌++◌, length, length-append, refl, sym, ap, ◌∙◌, arith, append_assoc, Some, None}
use Rattle.std.specs.List.{list_all, join_with_byte}
use Rattle.std.specs.Char.{is_ascii_digit}
use Rattle.std.specs.Str.{all_ascii_digits, bytes_eq}
use Rattle.std.specs.Fmt.{decimal}
use Rattle.std.proofs.lemmas.Bool.{leb-true, le-leb}
use Rattle.std.proofs.lemmas.Bool.Decides.{nat_tests}
use Rattle.std.proofs.lemmas.Fmt.{length-decimal-le_wide}
use Rattle.std.proofs.lemmas.List.Folds.{list_all-append}
use Rattle.std.proofs.lemmas.Slice.Eq.{bytes_eq-Decides}
use Rattle.dmc_types.specs.Limits.{max_line_bytes}
use Rattle.dmc_text.specs.Numbers.{number}
use Rattle.dmc_text.specs.Lines.{is_line_byte, is_clean, is_comment}
use Rattle.dmc_text.specs.RoundTrip.{is_plain, AreWords}
use Rattle.dmc_text.proofs.TextLemmas.{and_parts, decimal_plain, decimal_digits, number_again}

abbrev clean : List ℕ → Bool
clean w = list_all is_line_byte w

-- ---- words

pub one_word : (most : ℕ) (w : List ℕ) → is_plain w ≡ true → list_all is_line_byte w ≡ true → length w ≤ most → AreWords most (w ∷ [])
one_word most w plain bytes short = record { plain = rw plain refl; bytes = rw bytes refl; short = short }

-- words that are given
pub given : (most : ℕ) (ws : List (List ℕ)) → list_all is_plain ws ≡ true → list_all (list_all is_line_byte) ws ≡ true → leb (length (join_with_byte 32 ws)) most ≡ true → AreWords most ws
given most ws plain bytes short = record { plain = plain; bytes = bytes; short = leb-true _ _ short }

pub shorter : {ws : List (List ℕ)} (m n : ℕ) → AreWords m ws → m ≤ n → AreWords n ws
shorter m n a h = record { plain = a.plain; bytes = a.bytes; short = omega (arith, a.short, h) }

-- one word, a space, and others
pub and_more : {w v : List ℕ} {vs : List (List ℕ)} (m n : ℕ) → AreWords m (w ∷ []) → AreWords n (v ∷ vs) → AreWords (m + 1 + n) (w ∷ v ∷ vs)
and_more {w} {v} {vs} m n a b =
    let p = and_parts (is_plain w) true a.plain in
    let q = and_parts (clean w) true a.bytes in
    record {
      plain = rw (p.0, b.plain) refl;
      bytes = rw (q.0, b.bytes) refl;
      short = omega (arith, length-append w (32 ∷ join_with_byte 32 (v ∷ vs)), a.short, b.short);
    }

pub and_some : (m n : ℕ) (w : List ℕ) (ws : List (List ℕ)) → 0 < length ws → AreWords m (w ∷ []) → AreWords n ws → AreWords (m + 1 + n) (w ∷ ws)
and_some m n w [] some a b = absurd (omega (arith, some))
and_some m n w (v ∷ vs) some a b = and_more m n a b

join_both : (w : List ℕ) (ws : List (List ℕ)) (v : List ℕ) (vs : List (List ℕ)) → join_with_byte 32 ((w ∷ ws) ++ (v ∷ vs)) ≡ join_with_byte 32 (w ∷ ws) ++ (32 ∷ join_with_byte 32 (v ∷ vs))
join_both w [] v vs = refl
join_both w (u ∷ ws) v vs =
    ap (λ t. w ++ (32 ∷ t)) (join_both u ws v vs) ∙ sym (append_assoc w (32 ∷ join_with_byte 32 (u ∷ ws)) (32 ∷ join_with_byte 32 (v ∷ vs)))

-- two lists of words, with a space between them
pub join_some : (ws vs : List (List ℕ)) → 0 < length ws → 0 < length vs → join_with_byte 32 (ws ++ vs) ≡ join_with_byte 32 ws ++ (32 ∷ join_with_byte 32 vs)
join_some [] vs some more = absurd (omega (arith, some))
join_some (w ∷ ws) [] some more = absurd (omega (arith, more))
join_some (w ∷ ws) (v ∷ vs) some more = join_both w ws v vs

pub both_some : (m n : ℕ) (ws vs : List (List ℕ)) → 0 < length ws → 0 < length vs → AreWords m ws → AreWords n vs → AreWords (m + 1 + n) (ws ++ vs)
both_some m n ws vs some more a b =
    let front : List ℕ = join_with_byte 32 ws in
    let back : List ℕ = join_with_byte 32 vs in
    record {
      plain = list_all-append is_plain ws vs ∙ ap (λ t. t && list_all is_plain vs) a.plain ∙ b.plain;
      bytes = list_all-append clean ws vs ∙ ap (λ t. t && list_all clean vs) a.bytes ∙ b.bytes;
      short = omega (arith, ap length (join_some ws vs some more), length-append front (32 ∷ back), a.short, b.short);
    }

-- ---- numbers

digits_clean : (ds : List ℕ) → all_ascii_digits ds ≡ true → list_all is_line_byte ds ≡ true
digits_clean [] h = refl
digits_clean (b ∷ bs) h =
    let p = and_parts (is_ascii_digit b) (all_ascii_digits bs) h in
    let low = and_parts (leb 48 b) (leb b 57) p.0 in
    let from : leb 32 b ≡ true = grind (arith, nat_tests) in
    let to : leb b 126 ≡ true = grind (arith, nat_tests) in
    rw (from, to, digits_clean bs p.1) refl

pub decimal_clean : (n : ℕ) → n < 10 ^ 64 → list_all is_line_byte (decimal n) ≡ true
decimal_clean n h = digits_clean (decimal n) (decimal_digits n h)

-- a number of at most this many digits
pub number_word : (k n : ℕ) → 0 < k → n < 10 ^ k → n < 10 ^ 64 → AreWords k (decimal n ∷ [])
number_word k n some below h = one_word k (decimal n) (decimal_plain n h) (decimal_clean n h) (length-decimal-le_wide k n some below h)

pub small_word : (n : ℕ) → n < 2 ^ 32 → AreWords 10 (decimal n ∷ [])
small_word n h = number_word 10 n (omega arith) (omega (arith, h)) (omega (arith, h))

-- a number is no word that spells none
pub apart : (limit n : ℕ) (v : List ℕ) (b : Bool) → bytes_eq (decimal n) v ≡ b → n < limit → n < 10 ^ 64 → number limit v ≡ None → bytes_eq (decimal n) v ≡ false
apart limit n v false e below h none = e
apart limit n v true e below h none =
    let same : decimal n ≡ v = (bytes_eq-Decides (decimal n) v).0 e in
    let some : number limit v ≡ Some n = ap (number limit) (sym same) ∙ number_again limit n below h in
    absurd (cc)

-- nor the sign of a comment
digits_mean : (ds : List ℕ) → all_ascii_digits ds ≡ true → is_comment ds ≡ false
digits_mean [] h = refl
digits_mean (b ∷ bs) h =
    let p = and_parts (is_ascii_digit b) (all_ascii_digits bs) h in
    let low = and_parts (leb 48 b) (leb b 57) p.0 in
    let no : eqb b 35 ≡ false = grind (arith, nat_tests) in
    no

pub decimal_means : (n : ℕ) → n < 10 ^ 64 → is_comment (decimal n) ≡ false
decimal_means n h = digits_mean (decimal n) (decimal_digits n h)

-- ---- lines

clean_line : (ws : List (List ℕ)) → list_all (list_all is_line_byte) ws ≡ true → list_all is_line_byte (join_with_byte 32 ws) ≡ true
clean_line [] h = refl
clean_line (w ∷ []) h = (and_parts (clean w) true h).0
clean_line (w ∷ v ∷ ws) h =
    let p = and_parts (clean w) (list_all clean (v ∷ ws)) h in
    list_all-append is_line_byte w (32 ∷ join_with_byte 32 (v ∷ ws)) ∙ ap (λ t. t && clean (32 ∷ join_with_byte 32 (v ∷ ws))) p.0 ∙ clean_line (v ∷ ws) p.1

-- words that are not too long make a line
pub is_line : (ws : List (List ℕ)) → AreWords max_line_bytes ws → is_clean (join_with_byte 32 ws) ≡ true
unfolding is_clean
is_line ws a = ap (λ t. t && clean (join_with_byte 32 ws)) (le-leb (length (join_with_byte 32 ws)) max_line_bytes a.short) ∙ clean_line ws a.bytes
