-- Lines in a buffer, and of a text that is read in pieces.
use Rattle.std.proofs.Common.{◌≡◌, ℕ, ◌+◌, ◌-◌, ◌≤◌, List, [], ◌++◌, sym, ap, subst, ◌∙◌, arith, length, take, drop, Option, Some, None, position}
use Rattle.std.specs.Prelude.{slice_range}
use Rattle.std.specs.Option.{option_map}
use Rattle.std.proofs.lemmas.List.{take-take, drop-drop, drop-take, take-append-drop, take_rest}
use Rattle.std.proofs.Math.Seq.{take-add}
use Rattle.std.specs.Io.KnownBytes.{Keeps, Consumes, Appends}
use Rattle.dmc_text.specs.Texts.{AppendsSome}
use Rattle.dmc_text.specs.Reading.{is_end, next_line}
use Rattle.std.proofs.KnownBytes.{Appends-trans, Consumes-trans}

-- the first n of a range
pub front_of_range : (items : List ℕ) (start end n : ℕ) → start + n ≤ end → take n (slice_range items start end) ≡ slice_range items start (start + n)
front_of_range items start end n h =
    let same : start + n - start ≡ n = omega arith in
    let fits : n ≤ end - start = omega arith in
    take-take n (end - start) (drop start items) fits ∙ ap (λ k. take k (drop start items)) (sym same)

-- what is after the first n of a range
pub back_of_range : (items : List ℕ) (start end n : ℕ) → start + n ≤ end → drop n (slice_range items start end) ≡ slice_range items (start + n) end
back_of_range items start end n h =
    let m : ℕ = end - (start + n) in
    let whole : end - start ≡ n + m = omega arith in
    ap (λ k. drop n (take k (drop start items))) whole
    ∙ drop-take n m (drop start items)
    ∙ ap (take m) (drop-drop n start items)

-- where the first LF of a range is, its first line ends
pub found_line : (items : List ℕ) (start end i : ℕ) → start + (i + 1) ≤ end → position is_end (slice_range items start end) ≡ Some i
    → next_line (slice_range items start end) ≡ Some (slice_range items start (start + i), slice_range items (start + i + 1) end)
found_line items start end i h e =
    let rest : List ℕ = slice_range items start end in
    let near : start + i ≤ end = omega arith in
    let next : start + (i + 1) ≡ start + i + 1 = omega arith in
    ap (option_map (λ k. (take k rest, drop (k + 1) rest))) e
    ∙ ap (λ l. Some (l, drop (i + 1) rest)) (front_of_range items start end i near)
    ∙ ap (λ r. Some (slice_range items start (start + i), r)) (back_of_range items start end (i + 1) h ∙ ap (λ k. slice_range items k end) next)

-- a range lies in the front up to its end
pub range_of_front : (items : List ℕ) (start end : ℕ) → start ≤ end → slice_range items start end ≡ drop start (take end items)
range_of_front items start end h =
    let whole : end ≡ start + (end - start) = omega arith in
    sym (ap (λ k. drop start (take k items)) whole ∙ drop-take start (end - start) items)

-- what is after the end of a range changes nothing
pub same_range : (old new : List ℕ) (start end : ℕ) → start ≤ end → take end new ≡ take end old → slice_range new start end ≡ slice_range old start end
same_range old new start end h e = range_of_front new start end h ∙ ap (drop start) e ∙ sym (range_of_front old start end h)

-- what is read behind the end of a range is at its back
pub range_grown : (old new : List ℕ) (start end n : ℕ) → start ≤ end → take end new ≡ take end old
    → slice_range new start (end + n) ≡ slice_range old start end ++ take n (drop end new)
range_grown old new start end n h e =
    let count : end + n - start ≡ (end - start) + n = omega arith in
    let place : start + (end - start) ≡ end = omega arith in
    ap (λ k. take k (drop start new)) count
    ∙ take-add (end - start) n (drop start new)
    ∙ ap (λ xs. xs ++ take n (drop (end - start) (drop start new))) (same_range old new start end h e)
    ∙ ap (λ xs. slice_range old start end ++ take n xs) (drop-drop (end - start) start new ∙ ap (λ k. drop k new) place)

-- what takes no byte keeps all
pub all_kept : (before after : Option (List ℕ)) → Consumes before after [] → Keeps before after
all_kept None after h = tt
all_kept (Some xs) None h = h
all_kept (Some xs) (Some ys) h = sym h

-- ---- writing

-- the first i bytes, and the next n
pub appends_next : (a b c : Option (List ℕ)) (bytes : List ℕ) (i n : ℕ) → Appends a b (take i bytes) → Appends b c (take n (slice_range bytes i (length bytes))) → Appends a c (take (i + n) bytes)
appends_next a b c bytes i n h k =
    let rest : slice_range bytes i (length bytes) ≡ drop i bytes = take_rest bytes i in
    let next : Appends b c (take n (drop i bytes)) = subst (λ w. Appends b c (take n w)) rest k in
    subst (Appends a c) (sym (take-add i n bytes)) (Appends-trans a b c (take i bytes) (take n (drop i bytes)) h next)

-- the first i bytes of all
pub appends_some : (a b : Option (List ℕ)) (bytes : List ℕ) (i : ℕ) → Appends a b (take i bytes) → AppendsSome a b bytes
appends_some a b bytes i h = (take i bytes, drop i bytes, h, take-append-drop i bytes)

-- ---- reading

-- the first i bytes, and the next n behind them
pub consumes_next : (a b c : Option (List ℕ)) (old new : List ℕ) (i n : ℕ) → take i new ≡ take i old → Consumes a b (take i old) → Consumes b c (take n (drop i new)) → Consumes a c (take (i + n) new)
consumes_next a b c old new i n same h k =
    subst (Consumes a c) (sym (take-add i n new)) (Consumes-trans a b c (take i new) (take n (drop i new)) (subst (Consumes a b) (sym same) h) k)
