-- The lines of a text, found one by one.
use Rattle.std.proofs.Common.{◌≡◌, ℕ, suc, ◌+◌, ◌<◌, ◌≤◌, Bool, true, false, not, cond, ltb, List, [], ◌∷◌, ◌++◌, refl, sym, ap, ◌∙◌, arith, length, length-append, take, drop, get_or, drop-cons, ◌==◌, Option, Some, None}
use Rattle.std.specs.Option.{option_map}
use Rattle.std.specs.List.{position_or_len}
use Rattle.std.proofs.lemmas.Bool.{ltb-true, ltb-false, eqb-true, or_parts}
use Rattle.std.proofs.lemmas.List.{take_all, take-append-drop, append_assoc}
use Rattle.std.proofs.lemmas.List.Sums.{passes_at_first}
use Rattle.std.proofs.lemmas.List.Folds.{list_any-append}
use Rattle.std.specs.Io.KnownBytes.{Keeps, Consumes}
use Rattle.dmc_text.specs.Reading.{Reading, is_end, next_line}
use Rattle.dmc_text.specs.Texts.{onto, lines_of, has_end, whole_lines}
use Rattle.std.proofs.lemmas.Option.{same_Some}
use Rattle.std.proofs.Math.Bool.{or-true}

-- ---- the first line

first_len : List ℕ → ℕ
first_len xs = position_or_len is_end xs

plain_more : (x : ℕ) (xs : List ℕ) (b : Bool) → is_end x ≡ b → has_end (take (position_or_len is_end xs) xs) ≡ false → has_end (take (position_or_len is_end (x ∷ xs)) (x ∷ xs)) ≡ false
plain_more x xs true e ih =
    let near : position_or_len is_end (x ∷ xs) ≡ 0 = ap (λ b. cond (not b) (1 + position_or_len is_end xs) 0) e in
    ap (λ k. has_end (take k (x ∷ xs))) near
plain_more x xs false e ih =
    let one : 1 + position_or_len is_end xs ≡ suc (position_or_len is_end xs) = omega arith in
    let far : position_or_len is_end (x ∷ xs) ≡ suc (position_or_len is_end xs) = ap (λ b. cond (not b) (1 + position_or_len is_end xs) 0) e ∙ one in
    ap (λ k. has_end (take k (x ∷ xs))) far ∙ rw (e, ih) refl

-- there is no LF before the first one
plain_front : (xs : List ℕ) → has_end (take (position_or_len is_end xs) xs) ≡ false
plain_front [] = refl
plain_front (x ∷ xs) = plain_more x xs (is_end x) refl (plain_front xs)

-- the first line, its LF, and what follows
pub record FirstLine (xs line rest : List ℕ) : Type 0 where
  pub whole : xs ≡ line ++ (10 ∷ rest)
  pub plain : has_end line ≡ false

first_by : (xs line rest : List ℕ) (b : Bool) → ltb (position_or_len is_end xs) (length xs) ≡ b → next_line xs ≡ Some (line, rest) → FirstLine xs line rest
first_by xs line rest true e h =
    let n : ℕ = position_or_len is_end xs in
    let within : n < length xs = ltb-true _ _ e in
    let found : Some (take n xs, drop (n + 1) xs) ≡ Some (line, rest) = ap (λ b. option_map (λ i. (take i xs, drop (i + 1) xs)) (cond b (Some n) None)) (sym e) ∙ h in
    let both : (take n xs, drop (n + 1) xs) ≡ (line, rest) = same_Some (take n xs, drop (n + 1) xs) (line, rest) found in
    let line-is : take n xs ≡ line = ap (λ p. p.0) both in
    let rest-is : drop (n + 1) xs ≡ rest = ap (λ p. p.1) both in
    let next : n + 1 ≡ suc n = omega arith in
    let hit : is_end (get_or xs n 0) ≡ true = passes_at_first is_end xs 0 within in
    let byte : get_or xs n 0 ≡ 10 = eqb-true (get_or xs n 0) 10 hit in
    let shape : drop n xs ≡ 10 ∷ drop (suc n) xs = drop-cons xs n 0 within ∙ ap (λ b. b ∷ drop (suc n) xs) byte in
    record {
      whole = sym (take-append-drop n xs) ∙ ap (λ w. w ++ drop n xs) line-is ∙ ap (λ w. line ++ w) (shape ∙ ap (λ k. 10 ∷ drop k xs) (sym next) ∙ ap (λ w. 10 ∷ w) rest-is);
      plain = ap has_end (sym line-is) ∙ plain_front xs;
    }
first_by xs line rest false e h =
    let none : None ≡ Some (line, rest) = ap (λ b. option_map (λ i. (take i xs, drop (i + 1) xs)) (cond b (Some (position_or_len is_end xs)) None)) (sym e) ∙ h in
    cc

pub first_line : (xs line rest : List ℕ) → next_line xs ≡ Some (line, rest) → FirstLine xs line rest
first_line xs line rest h = first_by xs line rest (ltb (position_or_len is_end xs) (length xs)) refl h

none_by : (xs : List ℕ) (b : Bool) → ltb (position_or_len is_end xs) (length xs) ≡ b → next_line xs ≡ None → has_end xs ≡ false
none_by xs true e h =
    let some : option_map (λ i. (take i xs, drop (i + 1) xs)) (Some (position_or_len is_end xs)) ≡ None = ap (λ b. option_map (λ i. (take i xs, drop (i + 1) xs)) (cond b (Some (position_or_len is_end xs)) None)) (sym e) ∙ h in
    cc
none_by xs false e h =
    let past : length xs ≤ position_or_len is_end xs = ltb-false _ _ e in
    ap has_end (sym (take_all (position_or_len is_end xs) xs past)) ∙ plain_front xs

-- a text without a whole line has no LF
pub no_line : (xs : List ℕ) → next_line xs ≡ None → has_end xs ≡ false
no_line xs h = none_by xs (ltb (position_or_len is_end xs) (length xs)) refl h

-- ---- lines

-- a line without an LF is first
pub line_first : (line more : List ℕ) → has_end line ≡ false → lines_of (line ++ (10 ∷ more)) ≡ line ∷ lines_of more
line_first [] more h = refl
line_first (b ∷ bs) more h =
    let p = or_parts (b == 10) (has_end bs) h in
    ap (λ t. cond t ([] ∷ lines_of (bs ++ (10 ∷ more))) (onto b (lines_of (bs ++ (10 ∷ more))))) p.0 ∙ ap (onto b) (line_first bs more p.1)

-- bytes before the first line
abbrev pub in_front : List ℕ → List (List ℕ) → List (List ℕ)
in_front [] lines = lines
in_front (b ∷ bs) lines = onto b (in_front bs lines)

pub lines_behind : (xs more : List ℕ) → has_end xs ≡ false → lines_of (xs ++ more) ≡ in_front xs (lines_of more)
lines_behind [] more h = refl
lines_behind (b ∷ bs) more h =
    let p = or_parts (b == 10) (has_end bs) h in
    ap (λ t. cond t ([] ∷ lines_of (bs ++ more)) (onto b (lines_of (bs ++ more)))) p.0 ∙ ap (onto b) (lines_behind bs more p.1)

-- the first of lines, and that it is as long as what is put before it
pub record Leads (xs : List ℕ) (lines : List (List ℕ)) : Type 0 where
  pub line : List ℕ
  pub others : List (List ℕ)
  pub split : in_front xs lines ≡ line ∷ others
  pub long : length xs ≤ length line

leads_onto : (b : ℕ) (bs : List ℕ) (lines : List (List ℕ)) → Leads bs lines → Leads (b ∷ bs) lines
leads_onto b bs lines l = record { line = b ∷ l.line; others = l.others; split = ap (onto b) l.split; long = omega (arith, l.long) }

-- some bytes make a line
pub leads : (b : ℕ) (bs : List ℕ) (lines : List (List ℕ)) → Leads (b ∷ bs) lines
leads b [] [] = record { line = b ∷ []; others = []; split = refl; long = omega arith }
leads b [] (line ∷ lines) = record { line = b ∷ line; others = lines; split = refl; long = omega arith }
leads b (a ∷ cs) lines = leads_onto b (a ∷ cs) lines (leads a cs lines)

-- a text without an LF is one line
pub one_line : (b : ℕ) (bs : List ℕ) → has_end (b ∷ bs) ≡ false → lines_of (b ∷ bs) ≡ (b ∷ bs) ∷ []
one_line b [] h =
    let p = or_parts (b == 10) false h in
    ap (λ t. cond t ([] ∷ []) ((b ∷ []) ∷ [])) p.0
one_line b (a ∷ cs) h =
    let p = or_parts (b == 10) (has_end (a ∷ cs)) h in
    ap (λ t. cond t ([] ∷ lines_of (a ∷ cs)) (onto b (lines_of (a ∷ cs)))) p.0 ∙ ap (onto b) (one_line a cs p.1)

-- the last line, which lacks its LF
pub last_line : (rest : List ℕ) → next_line rest ≡ None → 0 < length rest → lines_of rest ≡ rest ∷ []
last_line [] none some = absurd (omega (arith, some))
last_line (b ∷ bs) none some = one_line b bs (no_line (b ∷ bs) none)

-- ---- a line that was found

-- a line and its LF, and what follows
pub behind_line : (done line more : List ℕ) → done ++ (line ++ (10 ∷ more)) ≡ (done ++ (line ++ 10 ∷ [])) ++ more
behind_line done line more = ap (λ w. done ++ w) (sym (append_assoc line (10 ∷ []) more)) ∙ sym (append_assoc done (line ++ 10 ∷ []) more)

-- the line that was found, before what follows it
pub line_and_more : (rest : List ℕ) (l : Reading) (more : List ℕ) → next_line rest ≡ Some (l.line, l.rest) → lines_of (rest ++ more) ≡ l.line ∷ lines_of (l.rest ++ more)
line_and_more rest l more found =
    let f = first_line rest l.line l.rest found in
    ap (λ w. lines_of (w ++ more)) f.whole ∙ ap lines_of (append_assoc l.line (10 ∷ l.rest) more) ∙ line_first l.line (l.rest ++ more) f.plain

pub shorter : (rest : List ℕ) (l : Reading) → next_line rest ≡ Some (l.line, l.rest) → length l.rest < length rest
shorter rest l found =
    let f = first_line rest l.line l.rest found in
    let whole : length rest ≡ length (l.line ++ (10 ∷ l.rest)) = ap length f.whole in
    omega (arith, whole, length-append l.line (10 ∷ l.rest))

-- ---- bytes

-- a reader that keeps all bytes reads none
pub none_taken : (before after : Option (List ℕ)) → Keeps before after → Consumes before after []
none_taken None after h = tt
none_taken (Some xs) None h = h
none_taken (Some xs) (Some ys) h = sym h

-- ---- whole lines

-- after whole lines, the whole lines go on
pub whole_on : (done xs : List ℕ) → whole_lines done ≡ done → whole_lines (done ++ xs) ≡ done ++ whole_lines xs
whole_on [] xs h = refl
whole_on (b ∷ bs) xs h = whole_by b bs xs (has_end (b ∷ bs)) refl h (λ k. whole_on bs xs k)
  where
    has_more : (bs xs : List ℕ) → has_end bs ≡ true → has_end (bs ++ xs) ≡ true
    has_more bs xs e = list_any-append (λ b. b == 10) bs xs ∙ rw e refl

    whole_by : (b : ℕ) (bs xs : List ℕ) (t : Bool) → has_end (b ∷ bs) ≡ t → whole_lines (b ∷ bs) ≡ b ∷ bs → (whole_lines bs ≡ bs → whole_lines (bs ++ xs) ≡ bs ++ whole_lines xs)
        → whole_lines ((b ∷ bs) ++ xs) ≡ (b ∷ bs) ++ whole_lines xs
    whole_by b bs xs true e h ih =
        let rest : b ∷ whole_lines bs ≡ b ∷ bs = ap (λ t. cond t (b ∷ whole_lines bs) []) (sym e) ∙ h in
        let rest-is : whole_lines bs ≡ bs = cc in
        ap (λ t. cond t (b ∷ whole_lines (bs ++ xs)) []) (has_more (b ∷ bs) xs e) ∙ ap (λ w. b ∷ w) (ih rest-is)
    whole_by b bs xs false e h ih =
        let none : [] ≡ b ∷ bs = ap (λ t. cond t (b ∷ whole_lines bs) []) (sym e) ∙ h in
        cc

-- a text that ends with an LF is whole lines
pub ends_whole : (xs : List ℕ) → whole_lines (xs ++ 10 ∷ []) ≡ xs ++ 10 ∷ []
ends_whole [] = refl
ends_whole (b ∷ bs) =
    let some : has_end (b ∷ (bs ++ 10 ∷ [])) ≡ true = list_any-append (λ b. b == 10) (b ∷ bs) (10 ∷ []) ∙ or-true (has_end (b ∷ bs)) in
    ap (λ t. cond t (b ∷ whole_lines (bs ++ 10 ∷ [])) []) some ∙ ap (λ w. b ∷ w) (ends_whole bs)
