-- How many lists of grants of a server can't grow.
use Rattle.std.proofs.Common.{◌≡◌, ℕ, ◌+◌, ◌<◌, ◌≤◌, Bool, true, false, cond, List, [], ◌∷◌, length, set, slice_get, Some, nat_lt, ◌==◌, refl, sym, ap, ◌∙◌, arith}
use Rattle.std.specs.Prelude.{◌||◌}
use Rattle.std.specs.List.{AllZip}
use Rattle.std.proofs.lemmas.Bool.{lt-ltb}
use Rattle.std.proofs.lemmas.List.{get_or-set_same, get_or-set_other}
use Rattle.std.proofs.lemmas.List.Sums.{sum_by-cons, sum_by-set}
use Rattle.std.proofs.lemmas.Option.{get_or_from_slice_get, slice_get_within}
use Rattle.dmc_types.specs.declared.ids.ServerId.{ServerId}
use Rattle.dmc_types.specs.declared.config.Counting.{Counting}
use Rattle.dmc_types.specs.declared.config.PhaseType.{PhaseType}
use Rattle.dmc_types.specs.declared.config.PhaseType.TheVariants.{Reservation, Priority}
use Rattle.dmc_core.specs.Run.{Pair, Client, no_pair, pair_at, with_pair, grants, with_grants, max_grants, are_grants_full}
use Rattle.dmc_core.specs.Run as runs
use Rattle.dmc_core.specs.Core.{Held, Matches}
use Rattle.dmc_core.specs.internal.Parts.{KeepsGrants, one_if_full, full_counts_of, full_counts}

-- a pair has a full list, or it has none
by_pair : (r p : Bool) (a : Bool) (n : ℕ) → a ≡ nat_lt 0 n → ((r || p) || a) ≡ nat_lt 0 (cond r 1 0 + cond p 1 0 + n)
by_pair true p a n e = sym (lt-ltb _ _ (omega arith))
by_pair false true a n e = sym (lt-ltb _ _ (omega arith))
by_pair false false a n e = e ∙ ap (nat_lt 0) (omega arith)

pub are_full : (s : ServerId) (counting : Counting) (hs : List Held) (cs : List Client) → AllZip (Matches counting) hs cs → are_grants_full s cs ≡ nat_lt 0 (full_counts s hs)
are_full s counting [] [] z = refl
are_full s counting [] (c ∷ cs) z = absurd z
are_full s counting (h ∷ hs) [] z = absurd z
are_full s counting (h ∷ hs) (c ∷ cs) z =
    let p = pair_at s h.pairs in
    ap (λ (ps : List Pair). runs.are_full (pair_at s ps) || are_grants_full s cs) (sym z.0.pairs)
    ∙ by_pair (length p.reservation == max_grants) (length p.priority == max_grants) (are_grants_full s cs) (full_counts s hs) (are_full s counting hs cs z.1)
    ∙ ap (nat_lt 0) (sym (sum_by-cons (λ h. full_counts_of (pair_at s h.pairs)) h hs))

-- another client at a place
pub full_counts-set : (s : ServerId) (hs : List Held) (i : ℕ) (h h' : Held) → slice_get hs i ≡ Some h
    → full_counts s (set hs i h') + full_counts_of (pair_at s h.pairs) ≡ full_counts s hs + full_counts_of (pair_at s h'.pairs)
full_counts-set s hs i h h' at =
    ap (λ (x : Held). full_counts s (set hs i h') + full_counts_of (pair_at s x.pairs)) (sym (get_or_from_slice_get hs i h h at))
    ∙ sum_by-set (λ h. full_counts_of (pair_at s h.pairs)) hs i h' h (slice_get_within hs i h at)

-- a client's part
pub full_counts-part : (s : ServerId) (hs : List Held) (i : ℕ) (h : Held) → slice_get hs i ≡ Some h → full_counts_of (pair_at s h.pairs) ≤ full_counts s hs
full_counts-part s hs i h at =
    let none : Held = record h { pairs = [] } in
    let e = full_counts-set s hs i h none at in
    omega arith

-- one list of a pair is another
pub full_counts_of-with_grants : (phase : PhaseType) (n : List ℕ) (p : Pair) → full_counts_of (with_grants phase n p) + one_if_full (length (grants phase p)) ≡ full_counts_of p + one_if_full (length n)
full_counts_of-with_grants Reservation n p = omega arith
full_counts_of-with_grants Priority n p = omega arith

pub one_if_full-part : (phase : PhaseType) (p : Pair) → one_if_full (length (grants phase p)) ≤ full_counts_of p
one_if_full-part Reservation p = omega arith
one_if_full-part Priority p = omega arith

-- the same grants, the same counts
pub same_counts : (old new : List Pair) (s : ServerId) → KeepsGrants old new → full_counts_of (pair_at s new) ≡ full_counts_of (pair_at s old)
same_counts old new s k =
    ap (λ (n : List ℕ). one_if_full (length n) + one_if_full (length (pair_at s new).priority)) (k.grants s Reservation)
    ∙ ap (λ (n : List ℕ). one_if_full (length (pair_at s old).reservation) + one_if_full (length n)) (k.grants s Priority)

-- one list of a client at a server is another
module _ (hs : List Held) (i : ℕ) (h h' : Held) (at : slice_get hs i ≡ Some h) (s : ServerId) (within : s.0 < length h.pairs) (phase : PhaseType) (n : List ℕ)
    (pairs_is : h'.pairs ≡ with_pair s (with_grants phase n (pair_at s h.pairs)) h.pairs) where
  pub full_counts-there : full_counts s (set hs i h') + one_if_full (length (grants phase (pair_at s h.pairs))) ≡ full_counts s hs + one_if_full (length n)
  full_counts-there =
      let here : pair_at s h'.pairs ≡ with_grants phase n (pair_at s h.pairs) = ap (pair_at s) pairs_is ∙ get_or-set_same h.pairs s.0 _ no_pair within in
      let e = full_counts-set s hs i h h' at in
      let f = full_counts_of-with_grants phase n (pair_at s h.pairs) in
      let g : full_counts_of (pair_at s h'.pairs) ≡ full_counts_of (with_grants phase n (pair_at s h.pairs)) = ap full_counts_of here in
      omega arith

  pub full_counts-elsewhere : (other : ServerId) → (other.0 ≡ s.0 → ⊥) → full_counts other (set hs i h') ≡ full_counts other hs
  full_counts-elsewhere other apart =
      let here : pair_at other h'.pairs ≡ pair_at other h.pairs = ap (pair_at other) pairs_is ∙ get_or-set_other h.pairs s.0 other.0 _ no_pair apart in
      let e = full_counts-set other hs i h h' at in
      let g : full_counts_of (pair_at other h'.pairs) ≡ full_counts_of (pair_at other h.pairs) = ap full_counts_of here in
      omega arith
