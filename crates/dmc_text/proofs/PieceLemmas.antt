-- A piece of a buffer that a read is given: what is before it stays, and what is read is at its front.
use Rattle.std.proofs.Common.{◌≡◌, ℕ, ◌+◌, ◌-◌, ◌<◌, ◌≤◌, List, ◌++◌, length, take, drop, Result, Ok, Err, Option, sym, ap, subst, ◌∙◌, arith, append_assoc, length-drop}
use Rattle.std.specs.Prelude.{IfOk, MatchResult, OkIff}
use Rattle.std.specs.Result.{result_unwrap_or}
use Rattle.std.specs.Io.KnownBytes.{Keeps, Consumes, IsAtEnd, ReadConsumes}
use Rattle.std.proofs.lemmas.List.{take-take, take_at, drop_at, drop-take, length-take-le, take-append-le}
use Rattle.std.proofs.lemmas.Result.{Ok-from_Ok_iff}

-- the most that may be read, if it fits the type that it is turned into
pub max_kept : {E : Type 0} (r : Result ℕ E) (P : Type 0) (most room n : ℕ) → OkIff r P most → P → n ≡ result_unwrap_or r room → n ≡ most
max_kept r P most room n turned fits is = is ∙ ap (λ r. result_unwrap_or r room) (Ok-from_Ok_iff r P most turned fits)

-- the buffer from its front on, with a piece of it replaced
abbrev pub with_piece : List ℕ → List ℕ → List ℕ → List ℕ → ℕ → ℕ → List ℕ
with_piece buffer piece behind tail at len = take len ((take at buffer ++ (piece ++ behind)) ++ tail)

pub length_of_piece : (buffer : List ℕ) (at n : ℕ) → at + n ≤ length buffer → length (take (at + n - at) (drop at buffer)) ≡ n
length_of_piece buffer at n fits =
    let same : at + n - at ≡ n = omega arith in
    let short : n ≤ length (drop at buffer) = omega (arith, length-drop at buffer) in
    ap (λ k. length (take k (drop at buffer))) same ∙ length-take-le n (drop at buffer) short

pub before_piece : (buffer piece behind tail : List ℕ) (at len : ℕ) → at ≤ length buffer → at ≤ len → take at (with_piece buffer piece behind tail at len) ≡ take at buffer
before_piece buffer piece behind tail at len within fits =
    let front = take at buffer in
    take-take at len ((front ++ (piece ++ behind)) ++ tail) fits
    ∙ ap (take at) (append_assoc front (piece ++ behind) tail)
    ∙ take_at front ((piece ++ behind) ++ tail) at (length-take-le at buffer within)

pub front_of_piece : (buffer piece behind tail : List ℕ) (at len n : ℕ) → at ≤ length buffer → n ≤ length piece → at + n ≤ len
    → take n (drop at (with_piece buffer piece behind tail at len)) ≡ take n piece
front_of_piece buffer piece behind tail at len n within short fits =
    let front = take at buffer in
    let all : List ℕ = (front ++ (piece ++ behind)) ++ tail in
    let rest : List ℕ = (piece ++ behind) ++ tail in
    let count : len ≡ at + (len - at) = omega arith in
    let more : n ≤ len - at = omega arith in
    ap (λ k. take n (drop at (take k all))) count
    ∙ ap (take n) (drop-take at (len - at) all)
    ∙ take-take n (len - at) (drop at all) more
    ∙ ap (λ xs. take n (drop at xs)) (append_assoc front (piece ++ behind) tail)
    ∙ ap (take n) (drop_at front rest at (length-take-le at buffer within))
    ∙ ap (take n) (append_assoc piece behind tail)
    ∙ take-append-le n piece (behind ++ tail) short

-- what a read takes is at the front of its piece
pub read_in_piece : {E : Type 0} (before after : Option (List ℕ)) (r : Result ℕ E) (buffer piece behind tail : List ℕ) (at len : ℕ)
    → at ≤ length buffer → at + length piece ≤ len → IfOk r (λ n. n ≤ length piece) → ReadConsumes before after r piece
    → MatchResult r (λ n. Consumes before after (take n (drop at (with_piece buffer piece behind tail at len)))) (λ _. Keeps before after)
read_in_piece before after (Ok n) buffer piece behind tail at len within fits short read =
    let near : at + n ≤ len = omega arith in
    subst (Consumes before after) (sym (front_of_piece buffer piece behind tail at len n within short near)) read.0
read_in_piece before after (Err e) buffer piece behind tail at len within fits short read = read

-- no byte where one fits: the reader is at its end
pub end_in_piece : {E A B : Type 0} (before after : Option (List ℕ)) (r : Result ℕ E) (piece : List ℕ)
    → (A → B → 0 < length piece) → ReadConsumes before after r piece → IfOk r (λ n. n ≡ 0 → A → B → IsAtEnd after)
end_in_piece before after (Ok n) piece room read = λ none a b. read.1 none (room a b)
end_in_piece before after (Err e) piece room read = tt
