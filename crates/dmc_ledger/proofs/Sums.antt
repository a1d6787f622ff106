-- How the tills' rows are related to their book's.
use Rattle.std.proofs.Common.{◌≡◌, ℕ, ◌+◌, ◌≤◌, ◌^◌, List, [], ◌∷◌, ◌++◌, set, refl, arith}
use Rattle.core.specs.Sync.Ledger.{parts_of, amount_of, IsBacked}
use Rattle.core.proofs.ledger.Sums.{HasRow, Backed, Audited, parts_of_set, amount_of_set, backed_set, audited_row}
use Rattle.dmc_ledger.specs.Rows.{AddsUp}

-- what a till's row shows beside its book's
abbrev pub Seen : ℕ × ℕ → ℕ × ℕ → Type 0
Seen book x = Audited book.0 book.1 x × (x.0 ≤ book.0) × (book.1 ≤ 2 ^ 63)

pub seen_row : (book : ℕ × ℕ) (xs : List (ℕ × ℕ)) (i : ℕ) (x : ℕ × ℕ) → HasRow xs i x → AddsUp book xs → Seen book x
seen_row book xs i x h ok = let p = parts_of_set xs i x (0, 0) h in let all = ok.0.0 in (audited_row book.0 book.1 xs i x h ok.0, omega arith, ok.1)

pub adds_up_set : (book book' : ℕ × ℕ) (xs : List (ℕ × ℕ)) (i : ℕ) (x y : ℕ × ℕ) → HasRow xs i x → AddsUp book xs
    → book'.0 + x.0 ≡ book.0 + y.0 → book'.1 + x.1 ≡ book.1 + y.1 → book'.1 ≤ 2 ^ 63 → Backed y → AddsUp book' (set xs i y)
adds_up_set book book' xs i x y h ok parts amounts bound backed =
    let p = parts_of_set xs i x y h in let a = amount_of_set xs i x y h in let all = ok.0.0 in let sum = ok.0.1 in
    ((omega arith, omega arith, backed_set xs i y backed ok.0.2), bound)

parts_of_append : (xs : List (ℕ × ℕ)) → parts_of (xs ++ (1, 0) ∷ []) ≡ parts_of xs + 1
parts_of_append [] = refl
parts_of_append (x ∷ xs) = let e = parts_of_append xs in omega arith

amount_of_append : (xs : List (ℕ × ℕ)) → amount_of (xs ++ (1, 0) ∷ []) ≡ amount_of xs
amount_of_append [] = refl
amount_of_append (x ∷ xs) = let e = amount_of_append xs in omega arith

backed_append : (xs : List (ℕ × ℕ)) → IsBacked xs → IsBacked (xs ++ (1, 0) ∷ [])
backed_append [] all = ((λ _. refl), tt)
backed_append (x ∷ xs) all = (all.0, backed_append xs all.1)

pub adds_up_append : (book : ℕ × ℕ) (xs : List (ℕ × ℕ)) → AddsUp book xs → AddsUp (book.0 + 1, book.1) (xs ++ (1, 0) ∷ [])
adds_up_append book xs ok = let p = parts_of_append xs in let a = amount_of_append xs in let all = ok.0.0 in let sum = ok.0.1 in
    ((omega arith, omega arith, backed_append xs ok.0.2), ok.1)
