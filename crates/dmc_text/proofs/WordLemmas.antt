-- The first word of a text, by indexes.
use Rattle.std.proofs.Common.{◌≡◌, ℕ, suc, ◌+◌, ◌<◌, ◌≤◌, Bool, true, false, not, cond, ltb, List, [], ◌∷◌, refl, sym, ap, subst, ◌∙◌, arith, length, take, drop, get_or, drop-cons, Some, None, unwrap_or, position}
use Rattle.std.specs.List.{filter, slice_split, onto_first, position_or_len}
use Rattle.std.proofs.lemmas.Bool.{ltb-true, ltb-false}
use Rattle.std.proofs.lemmas.List.Sums.{passes_at_first, prefix_len-le-length}
use Rattle.std.proofs.lemmas.List.{drop_all}
use Rattle.std.proofs.lemmas.List.Splits.{slice_split-cons_yes, slice_split-cons_no}
use Rattle.dmc_text.specs.Words.{is_space, is_word, words}
use Rattle.std.proofs.lemmas.Bool.{not-true}

-- a space in front changes no word
pub words_blank : (x : ℕ) (xs : List ℕ) → is_space x ≡ true → words (x ∷ xs) ≡ words xs
words_blank x xs e = ap (filter is_word) (slice_split-cons_yes is_space x xs e)

-- how many spaces are in front
abbrev pub blanks : List ℕ → ℕ
blanks xs = position_or_len (λ b. not (is_space b)) xs

abbrev pub letters : List ℕ → ℕ
letters xs = position_or_len is_space xs

drop_blanks : (x : ℕ) (xs : List ℕ) (b : Bool) → is_space x ≡ b → words xs ≡ words (drop (blanks xs) xs) → words (x ∷ xs) ≡ words (drop (blanks (x ∷ xs)) (x ∷ xs))
drop_blanks x xs true e ih =
    let one : 1 + blanks xs ≡ suc (blanks xs) = omega arith in
    let far : blanks (x ∷ xs) ≡ suc (blanks xs) = ap (λ b. cond (not (not b)) (1 + blanks xs) 0) e ∙ one in
    words_blank x xs e ∙ ih ∙ ap (λ k. words (drop k (x ∷ xs))) (sym far)
drop_blanks x xs false e ih =
    let near : blanks (x ∷ xs) ≡ 0 = ap (λ b. cond (not (not b)) (1 + blanks xs) 0) e in
    ap (λ k. words (drop k (x ∷ xs))) (sym near)

-- spaces in front change no word
pub words_past_blanks : (xs : List ℕ) → words xs ≡ words (drop (blanks xs) xs)
words_past_blanks [] = refl
words_past_blanks (x ∷ xs) = drop_blanks x xs (is_space x) refl (words_past_blanks xs)

-- the first part of a text, and the words behind it
pub record Parts (xs : List ℕ) : Type 0 where
  pub others : List (List ℕ)
  pub split : slice_split is_space xs ≡ take (letters xs) xs ∷ others
  pub behind : filter is_word others ≡ words (drop (letters xs) xs)

parts_more : (x : ℕ) (xs : List ℕ) (b : Bool) → is_space x ≡ b → Parts xs → Parts (x ∷ xs)
parts_more x xs true e p =
    let near : letters (x ∷ xs) ≡ 0 = ap (λ b. cond (not b) (1 + letters xs) 0) e in
    record {
      others = slice_split is_space xs;
      split = slice_split-cons_yes is_space x xs e ∙ ap (λ k. take k (x ∷ xs) ∷ slice_split is_space xs) (sym near);
      behind = sym (words_blank x xs e) ∙ ap (λ k. words (drop k (x ∷ xs))) (sym near);
    }
parts_more x xs false e p =
    let one : 1 + letters xs ≡ suc (letters xs) = omega arith in
    let far : letters (x ∷ xs) ≡ suc (letters xs) = ap (λ b. cond (not b) (1 + letters xs) 0) e ∙ one in
    record {
      others = p.others;
      split = slice_split-cons_no is_space x xs e ∙ ap (onto_first x) p.split ∙ ap (λ k. take k (x ∷ xs) ∷ p.others) (sym far);
      behind = p.behind ∙ ap (λ k. words (drop k (x ∷ xs))) (sym far);
    }

pub parts_of : (xs : List ℕ) → Parts xs
parts_of [] = record { others = []; split = refl; behind = refl }
parts_of (x ∷ xs) = parts_more x xs (is_space x) refl (parts_of xs)

-- a text whose first byte is no space begins with a word
pub words_cons : (x : ℕ) (xs : List ℕ) → is_space x ≡ false → words (x ∷ xs) ≡ (x ∷ take (letters xs) xs) ∷ words (drop (letters xs) xs)
words_cons x xs e =
    let p = parts_of xs in
    ap (filter is_word) (slice_split-cons_no is_space x xs e ∙ ap (onto_first x) p.split) ∙ ap (λ ws. (x ∷ take (letters xs) xs) ∷ ws) p.behind

-- ---- as the code looks for them

or_length : (p : ℕ → Bool) (xs : List ℕ) (b : Bool) → ltb (position_or_len p xs) (length xs) ≡ b → unwrap_or (position p xs) (length xs) ≡ position_or_len p xs
or_length p xs true e = ap (λ b. unwrap_or (cond b (Some (position_or_len p xs)) None) (length xs)) e
or_length p xs false e =
    let least = prefix_len-le-length (λ x. not (p x)) xs in
    let past : length xs ≤ position_or_len p xs = ltb-false _ _ e in
    ap (λ b. unwrap_or (cond b (Some (position_or_len p xs)) None) (length xs)) e ∙ omega arith

-- the index, or else the length
pub position_or_length : (p : ℕ → Bool) (xs : List ℕ) → unwrap_or (position p xs) (length xs) ≡ position_or_len p xs
position_or_length p xs = or_length p xs (ltb (position_or_len p xs) (length xs)) refl

-- a text of spaces has no word
pub no_word : (xs : List ℕ) → position (λ b. not (is_space b)) xs ≡ None → words xs ≡ []
no_word xs e =
    let far : blanks xs ≡ length xs = sym (position_or_length (λ b. not (is_space b)) xs) ∙ ap (λ o. unwrap_or o (length xs)) e in
    words_past_blanks xs ∙ ap (λ k. words (drop k xs)) far ∙ ap words (drop_all (length xs) xs (omega arith))

-- a text whose first byte is no space, up to its first space
first_of : (x : ℕ) (xs : List ℕ) (j : ℕ) → is_space x ≡ false → j ≡ unwrap_or (position is_space (x ∷ xs)) (length (x ∷ xs)) → words (x ∷ xs) ≡ take j (x ∷ xs) ∷ words (drop j (x ∷ xs))
first_of x xs j e j-is =
    let one : 1 + letters xs ≡ suc (letters xs) = omega arith in
    let far : letters (x ∷ xs) ≡ suc (letters xs) = ap (λ b. cond (not b) (1 + letters xs) 0) e ∙ one in
    words_cons x xs e ∙ ap (λ k. take k (x ∷ xs) ∷ words (drop k (x ∷ xs))) (sym (j-is ∙ position_or_length is_space (x ∷ xs) ∙ far))

-- behind its spaces a text begins with its first word
pub a_word : (xs : List ℕ) (i j : ℕ) → position (λ b. not (is_space b)) xs ≡ Some i → j ≡ unwrap_or (position is_space (drop i xs)) (length (drop i xs))
    → words xs ≡ take j (drop i xs) ∷ words (drop j (drop i xs))
a_word xs i j e j-is =
    let within : (blanks xs < length xs) × (blanks xs ≡ i) = found (λ b. not (is_space b)) xs i (ltb (blanks xs) (length xs)) refl e in
    let at : blanks xs < length xs = within.0 in
    let hit = passes_at_first (λ b. not (is_space b)) xs 0 at in
    let shape : drop i xs ≡ get_or xs i 0 ∷ drop (suc i) xs = drop-cons xs i 0 (omega arith) in
    let other : is_space (get_or xs i 0) ≡ false = not-true _ (ap (λ k. not (is_space (get_or xs k 0))) (sym within.1) ∙ hit) in
    words_past_blanks xs ∙ ap (λ k. words (drop k xs)) within.1
    ∙ subst (λ (ys : List ℕ). j ≡ unwrap_or (position is_space ys) (length ys) → words ys ≡ take j ys ∷ words (drop j ys)) (sym shape) (first_of (get_or xs i 0) (drop (suc i) xs) j other) j-is
  where
    found : (p : ℕ → Bool) (xs : List ℕ) (i : ℕ) (b : Bool) → ltb (position_or_len p xs) (length xs) ≡ b → position p xs ≡ Some i → (position_or_len p xs < length xs) × (position_or_len p xs ≡ i)
    found p xs i true b-is h = (ltb-true _ _ b-is, let some : Some (position_or_len p xs) ≡ Some i = ap (λ b. cond b (Some (position_or_len p xs)) None) (sym b-is) ∙ h in cc)
    found p xs i false b-is h = let none : None ≡ Some i = ap (λ b. cond b (Some (position_or_len p xs)) None) (sym b-is) ∙ h in cc

-- the same, where what follows the spaces is ys, cut in two at j
pub a_word_at : (xs : List ℕ) (i j : ℕ) (ys front back : List ℕ) → Some i ≡ position (λ b. not (is_space b)) xs → ys ≡ drop i xs → j ≡ unwrap_or (position is_space ys) (length ys)
    → front ≡ take j ys → back ≡ drop j ys → words xs ≡ front ∷ words back
a_word_at xs i j ys front back e ys-is j-is front-is back-is =
    a_word xs i j (sym e) (j-is ∙ ap (λ zs. unwrap_or (position is_space zs) (length zs)) ys-is)
    ∙ ap (λ zs. take j zs ∷ words (drop j zs)) (sym ys-is) ∙ ap (λ w. w ∷ words (drop j ys)) (sym front-is) ∙ ap (λ zs. front ∷ words zs) (sym back-is)
