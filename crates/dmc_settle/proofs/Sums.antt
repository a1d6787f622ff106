-- Sums by places.
use Rattle.std.proofs.Common.{◌≡◌, ℕ, zero, suc, ◌+◌, ◌<◌, ◌≤◌, List, [], ◌∷◌, length, get_or, refl, sym, ap, ◌∙◌, arith}
use Rattle.std.specs.Prelude.{sum_by}
use Rattle.std.proofs.lemmas.List.Sums.{sum_by-cons}
use Rattle.std.proofs.lemmas.List.FromFn.{get_or-range_with_len, length-range_with_len}
use Rattle.std.specs.List.{range_with_len}

-- of the places below n
abbrev pub sum_to : ℕ → (ℕ → ℕ) → ℕ
sum_to zero f = 0
sum_to (suc n) f = f 0 + sum_to n (λ k. f (suc k))

pub sum_places : {X : Type 0} (f : X → ℕ) (xs : List X) (d : X) → sum_by f xs ≡ sum_to (length xs) (λ k. f (get_or xs k d))
sum_places f [] d = refl
sum_places f (x ∷ xs) d = sum_by-cons f x xs ∙ ap (λ n. f x + n) (sum_places f xs d)

pub same_sum : (n : ℕ) (f g : ℕ → ℕ) → ((k : ℕ) → k < n → f k ≡ g k) → sum_to n f ≡ sum_to n g
same_sum zero f g h = refl
same_sum (suc n) f g h =
    let first = h 0 (omega arith) in
    let rest = same_sum n (λ k. f (suc k)) (λ k. g (suc k)) (λ k l. h (suc k) (omega (arith, l))) in
    omega (arith, first, rest)

pub no_sum : (n : ℕ) → sum_to n (λ k. 0) ≡ 0
no_sum zero = refl
no_sum (suc n) = let rest = no_sum n in omega (arith, rest)

-- beyond the last of them there is nothing
pub sum_places_within : {X : Type 0} (f : X → ℕ) (xs : List X) (d : X) (n : ℕ) → length xs ≤ n → f d ≡ 0 → sum_by f xs ≡ sum_to n (λ k. f (get_or xs k d))
sum_places_within f [] d n within none = sym (same_sum n (λ k. f d) (λ k. 0) (λ k l. none) ∙ no_sum n)
sum_places_within f (x ∷ xs) d zero within none = absurd (omega (arith, within))
sum_places_within f (x ∷ xs) d (suc n) within none = sum_by-cons f x xs ∙ ap (λ m. f x + m) (sum_places_within f xs d n (omega (arith, within)) none)

pub sum_plus : (n : ℕ) (f g : ℕ → ℕ) → sum_to n (λ k. f k + g k) ≡ sum_to n f + sum_to n g
sum_plus zero f g = refl
sum_plus (suc n) f g = let rest = sum_plus n (λ k. f (suc k)) (λ k. g (suc k)) in omega (arith, rest)

-- over a grid, row by row and column by column
pub sum_grid : (n m : ℕ) (f : ℕ → ℕ → ℕ) → sum_to n (λ i. sum_to m (f i)) ≡ sum_to m (λ j. sum_to n (λ i. f i j))
sum_grid zero m f = sym (no_sum m)
sum_grid (suc n) m f =
    ap (λ x. sum_to m (f 0) + x) (sum_grid n m (λ i. f (suc i)))
    ∙ sym (sum_plus m (f 0) (λ j. sum_to n (λ i. f (suc i) j)))

-- over the numbers below n
pub sum_range : (f : ℕ → ℕ) (n : ℕ) → sum_by f (range_with_len 0 n) ≡ sum_to n f
sum_range f n =
    let ns = range_with_len 0 n in
    sum_places f ns 0 ∙ ap (λ m. sum_to m (λ k. f (get_or ns k 0))) (length-range_with_len 0 n)
    ∙ same_sum n (λ k. f (get_or ns k 0)) f
    (λ k within. (let at : get_or ns k 0 ≡ k = omega (arith, get_or-range_with_len 0 n k 0 within) in ap f at))
