-- The order of the numbers is that of the ranks that they store.
use Rattle.std.specs.Prelude.{◌≡◌, ℕ, Bool, true, false, ◌+◌, ◌*◌, ◌/◌, ◌%◌, ◌^◌, ◌<◌, pos, ◌-ℤ◌, nat_lt, cond}
use Rattle.std.specs.Cmp.{nat_cmp_is, int_cmp_is}
use Rattle.std.specs.Ordering.{is_lt, ordering_then, nat_cmp, int_cmp, bool_cmp}
use Rattle.std.specs.declared.cmp.Ordering.{Ordering}
use Rattle.std.specs.declared.cmp.Ordering.TheVariants.{Less, Equal, Greater}
use Rattle.std.proofs.Common.{refl, ap, sym, ◌∙◌, arith}
use Rattle.std.proofs.lemmas.Cmp.{ranked}
use Rattle.std.proofs.lemmas.Int.{ints}
use Rattle.std.proofs.lemmas.Nat.{div-add-mod', mod_below}
use Rattle.dmc_tag.specs.Rank.{limit_rank_cmp}
use Rattle.dmc_tick.specs.Packed.{clients, tags, marked, limit_rank_in, raised_in, mark_in, upper_split}
use Rattle.dmc_tick.specs.Tick.{greatest}

-- ---- two numbers with a part below the number of clients

lex_last : (x y c d : ℕ) → x ≡ y → (o : Ordering) → o ≡ nat_cmp c d → o ≡ nat_cmp (x * clients + c) (y * clients + d)
lex_last x y c d same Less e = nat_cmp_is (x * clients + c) (y * clients + d) Less (omega (arith, same, ranked c d Less e))
lex_last x y c d same Equal e = nat_cmp_is (x * clients + c) (y * clients + d) Equal (omega (arith, same, ranked c d Equal e))
lex_last x y c d same Greater e = nat_cmp_is (x * clients + c) (y * clients + d) Greater (omega (arith, same, ranked c d Greater e))

lex_at : (x y c d : ℕ) → c < clients → d < clients → (o : Ordering) → o ≡ nat_cmp x y → ordering_then o (nat_cmp c d) ≡ nat_cmp (x * clients + c) (y * clients + d)
lex_at x y c d c_fits d_fits Less e = nat_cmp_is (x * clients + c) (y * clients + d) Less (omega (arith, c_fits, ranked x y Less e))
lex_at x y c d c_fits d_fits Equal e = lex_last x y c d (ranked x y Equal e) (nat_cmp c d) refl
lex_at x y c d c_fits d_fits Greater e = nat_cmp_is (x * clients + c) (y * clients + d) Greater (omega (arith, d_fits, ranked x y Greater e))

lex : (x y c d : ℕ) → c < clients → d < clients → ordering_then (nat_cmp x y) (nat_cmp c d) ≡ nat_cmp (x * clients + c) (y * clients + d)
lex x y c d c_fits d_fits = lex_at x y c d c_fits d_fits (nat_cmp x y) refl

-- ---- two tags, and two marks before them

tag_at : (r s : ℕ) (o : Ordering) → o ≡ nat_cmp r s → o ≡ int_cmp (pos r -ℤ pos greatest) (pos s -ℤ pos greatest)
tag_at r s Less e = int_cmp_is (pos r -ℤ pos greatest) (pos s -ℤ pos greatest) Less (omega (arith, ints, ranked r s Less e))
tag_at r s Equal e = int_cmp_is (pos r -ℤ pos greatest) (pos s -ℤ pos greatest) Equal (ap (λ n. pos n -ℤ pos greatest) (ranked r s Equal e))
tag_at r s Greater e = int_cmp_is (pos r -ℤ pos greatest) (pos s -ℤ pos greatest) Greater (omega (arith, ints, ranked r s Greater e))

same_mark : (m : Bool) (r s : ℕ) (o : Ordering) → o ≡ nat_cmp r s → o ≡ nat_cmp (marked m + r) (marked m + s)
same_mark m r s Less e = nat_cmp_is (marked m + r) (marked m + s) Less (omega (arith, ranked r s Less e))
same_mark m r s Equal e = nat_cmp_is (marked m + r) (marked m + s) Equal (ap (λ n. marked m + n) (ranked r s Equal e))
same_mark m r s Greater e = nat_cmp_is (marked m + r) (marked m + s) Greater (omega (arith, ranked r s Greater e))

marks : (m n : Bool) (r s : ℕ) → r < tags → s < tags →
    ordering_then (bool_cmp m n) (int_cmp (pos r -ℤ pos greatest) (pos s -ℤ pos greatest)) ≡ nat_cmp (marked m + r) (marked n + s)
marks true true r s p q = sym (tag_at r s (nat_cmp r s) refl) ∙ same_mark true r s (nat_cmp r s) refl
marks false false r s p q = sym (tag_at r s (nat_cmp r s) refl) ∙ same_mark false r s (nat_cmp r s) refl
marks true false r s p q = nat_cmp_is (marked true + r) (marked false + s) Greater (omega (arith, p, q))
marks false true r s p q = nat_cmp_is (marked false + r) (marked true + s) Less (omega (arith, p, q))

-- ---- the numbers of ranks

assoc : (a b c : Ordering) → ordering_then (ordering_then a b) c ≡ ordering_then a (ordering_then b c)
assoc Less b c = refl
assoc Equal b c = refl
assoc Greater b c = refl

lt_from_cmp : (a b : Bool) → is_lt (cond a Less (cond b Equal Greater)) ≡ a
lt_from_cmp true b = refl
lt_from_cmp false true = refl
lt_from_cmp false false = refl

upper_fits : (n : ℕ) → n < 2 ^ 125 → n / clients < tags + tags
upper_fits n bound = omega (arith, div-add-mod' n clients)

upper_cmp : (a b : ℕ) → a < 2 ^ 125 → b < 2 ^ 125 →
    ordering_then (bool_cmp (mark_in a) (mark_in b)) (int_cmp (pos (raised_in a) -ℤ pos greatest) (pos (raised_in b) -ℤ pos greatest)) ≡ nat_cmp (a / clients) (b / clients)
upper_cmp a b p q =
    marks (mark_in a) (mark_in b) (raised_in a) (raised_in b) (mod_below _ tags (omega arith)) (mod_below _ tags (omega arith))
    ∙ ap (λ n. nat_cmp n (marked (mark_in b) + raised_in b)) (upper_split (a / clients) (upper_fits a p))
    ∙ ap (λ n. nat_cmp (a / clients) n) (upper_split (b / clients) (upper_fits b q))

pub number_cmp : (a b : ℕ) → a < 2 ^ 125 → b < 2 ^ 125 → limit_rank_cmp int_cmp (limit_rank_in a) (limit_rank_in b) ≡ nat_cmp a b
number_cmp a b p q =
    sym (assoc (bool_cmp (mark_in a) (mark_in b)) (int_cmp (pos (raised_in a) -ℤ pos greatest) (pos (raised_in b) -ℤ pos greatest)) (nat_cmp (a % clients) (b % clients)))
    ∙ ap (λ o. ordering_then o (nat_cmp (a % clients) (b % clients))) (upper_cmp a b p q)
    ∙ lex (a / clients) (b / clients) (a % clients) (b % clients) (mod_below a clients (omega arith)) (mod_below b clients (omega arith))
    ∙ ap (λ n. nat_cmp n (b / clients * clients + b % clients)) (div-add-mod' a clients)
    ∙ ap (λ n. nat_cmp a n) (div-add-mod' b clients)

pub number_lt : (a b : ℕ) → a < 2 ^ 125 → b < 2 ^ 125 → nat_lt a b ≡ is_lt (limit_rank_cmp int_cmp (limit_rank_in a) (limit_rank_in b))
number_lt a b p q = sym (lt_from_cmp (nat_lt a b) _) ∙ ap is_lt (sym (number_cmp a b p q))
