-- What came in between two calls that stamped requests to a shard.
use Rattle.std.proofs.Common.{◌≡◌, ℕ, zero, suc, ◌+◌, ◌<◌, ◌≤◌, Bool, true, false, cond, ◌==◌, List, [], ◌∷◌, ◌++◌, length, drop, take, map, Option, Some, None, refl, sym, ap, ◌∙◌, subst, inl, inr, arith, append_assoc, length-append}
use Rattle.std.specs.Prelude.{sum_by}
use Rattle.std.proofs.lemmas.Bool.Decides.{eqb_tells}
use Rattle.std.proofs.lemmas.List.Sums.{sum_by-cons}
use Rattle.std.proofs.lemmas.List.{append-nil, take-append-drop, take-take}
use Rattle.std.proofs.Math.Seq.{drop-append_seam}
use Rattle.dmc_types.specs.Values.{Params, Counts, no_counts, counts_of}
use Rattle.dmc_types.specs.declared.ids.ServerId.{ServerId}
use Rattle.dmc_tracker.specs.TrackerList.{plus}
use Rattle.dmc_tracker.proofs.ForCallers.{same_counts, plus-none, none-plus, plus-assoc}
use Rattle.dmc_shards.specs.declared.call.ShardCall.{ShardCall}
use Rattle.dmc_shards.specs.declared.call.ShardCall.TheVariants.{Arrive, GiveBack, Skip}
use Rattle.dmc_shards.specs.CallList.{came, demanded, demanded_counts, given_back, pending, skipped, skipped_after, stamped, stamped_by, stamped_after}
use Rattle.dmc_shards.specs.ShardBounds.{stamp_by, stamp_after, stamp_at, is_among, others_after}
use Rattle.dmc_shards.proofs.ListLemmas.{came-append, given_back-append, pending-arrival, skipped-append, stamped-append}
use Rattle.dmc_shards.proofs.LawLemmas.{stamped_and_pending}

same_deltas : {x y : Counts} → x ≡ y → x.delta ≡ y.delta
same_deltas e = ap (λ (k : Counts). k.delta) e

same_rhos : {x y : Counts} → x ≡ y → x.rho ≡ y.rho
same_rhos e = ap (λ (k : Counts). k.rho) e

-- no more in both counts
abbrev pub IsAtMost : Counts → Counts → Type 0
IsAtMost a b = (a.delta ≤ b.delta) × (a.rho ≤ b.rho)

-- what a stamp counts, if there is one
abbrev pub counts_in : Option Params → Counts
counts_in None = no_counts
counts_in (Some params) = counts_of params

-- ---- the stamp of a call

module _ (s : ServerId) where
  stamped_is : (before : List ShardCall) (c : ShardCall) → stamped_by s before c ≡ counts_in (stamp_by s before c)
  stamped_is before (GiveBack q params) = refl
  stamped_is before (Skip q) = refl
  stamped_is before (Arrive q params) =
      elim (q.0 == s.0) as (λ b. cond b (demanded_counts s params before) no_counts ≡ counts_in (cond b (Some (demanded s params before)) None)) [
        | true ↦ refl
        | false ↦ refl
      ]

  -- nothing is pending after a call that stamps
  settled_by : (before : List ShardCall) (c : ShardCall) (p : Params) → stamp_by s before c ≡ Some p → pending s (before ++ c ∷ []) ≡ no_counts
  settled_by before (GiveBack q params) p e = absurd (cc)
  settled_by before (Skip q) p e = absurd (cc)
  settled_by before (Arrive q params) p e = by (q.0 == s.0) refl
    where
      by : (b : Bool) → (q.0 == s.0) ≡ b → pending s (before ++ Arrive q params ∷ []) ≡ no_counts
      by true here = pending-arrival before s q params here
      by false there =
          let none : stamp_by s before (Arrive q params) ≡ None = ap (λ b. cond b (Some (demanded s params before)) None) there in
          absurd (let differ : ◌≡◌ {A = Option Params} None (Some p) = sym none ∙ e in cc)

  settled : (before calls : List ShardCall) (n : ℕ) (p : Params) → stamp_after s before calls n ≡ Some p → pending s (before ++ take (suc n) calls) ≡ no_counts
  settled before [] n p e = absurd (cc)
  settled before (c ∷ cs) zero p e = settled_by before c p e
  settled before (c ∷ cs) (suc n) p e =
      subst (λ xs. pending s xs ≡ no_counts) (append_assoc before (c ∷ []) (take (suc n) cs)) (settled (before ++ c ∷ []) cs n p e)

  pub balanced : (calls : List ShardCall) (n : ℕ) (p : Params) → stamp_at s calls n ≡ Some p
      → plus (stamped s (take (suc n) calls)) (skipped s (take (suc n) calls)) ≡ plus (came (take (suc n) calls)) (given_back s (take (suc n) calls))
  balanced calls n p e =
      let front = take (suc n) calls in
      let counted = plus (stamped s front) (skipped s front) in
      sym (plus-none counted) ∙ ap (plus counted) (sym (settled [] calls n p e)) ∙ stamped_and_pending s front

-- ---- the calls with these numbers, and the others

-- what the calls with these numbers stamp to s
abbrev listed_after : List ℕ → ServerId → (before calls : List ShardCall) → Counts
listed_after numbers s before [] = no_counts
listed_after numbers s before (c ∷ cs) = plus (cond (is_among (length before) numbers) (stamped_by s before c) no_counts) (listed_after numbers s (before ++ c ∷ []) cs)

-- what the call with this number stamps to s
abbrev only_after : ℕ → ServerId → (before calls : List ShardCall) → Counts
only_after m s before [] = no_counts
only_after m s before (c ∷ cs) = plus (cond (m == length before) (stamped_by s before c) no_counts) (only_after m s (before ++ c ∷ []) cs)

one_of_two : (b : Bool) (x : Counts) → x ≡ plus (cond b x no_counts) (cond b no_counts x)
one_of_two true x = sym (plus-none x)
one_of_two false x = sym (none-plus x)

fours : (a b c d : Counts) → plus (plus a b) (plus c d) ≡ plus (plus a c) (plus b d)
fours a b c d = same_counts _ _ (omega arith) (omega arith)

longer : (before : List ShardCall) (c : ShardCall) → length (before ++ c ∷ []) ≡ suc (length before)
longer before c = omega (arith, length-append before (c ∷ []))

module _ (s : ServerId) where
  module _ (numbers : List ℕ) where
    parted : (before calls : List ShardCall) → stamped_after s before calls ≡ plus (listed_after numbers s before calls) (others_after numbers s before calls)
    parted before [] = refl
    parted before (c ∷ cs) =
        let b = is_among (length before) numbers in
        let x = stamped_by s before c in
        let next = before ++ c ∷ [] in
        ap (λ y. plus y (stamped_after s next cs)) (one_of_two b x)
        ∙ ap (plus (plus (cond b x no_counts) (cond b no_counts x))) (parted next cs)
        ∙ fours (cond b x no_counts) (cond b no_counts x) (listed_after numbers s next cs) (others_after numbers s next cs)

    listed-append : (before xs ys : List ShardCall) → listed_after numbers s before (xs ++ ys) ≡ plus (listed_after numbers s before xs) (listed_after numbers s (before ++ xs) ys)
    listed-append before [] ys =
        ap (λ zs. listed_after numbers s zs ys) (sym (append-nil before)) ∙ sym (none-plus (listed_after numbers s (before ++ []) ys))
    listed-append before (x ∷ xs) ys =
        let first = cond (is_among (length before) numbers) (stamped_by s before x) no_counts in
        ap (plus first) (listed-append (before ++ x ∷ []) xs ys
        ∙ ap (λ zs. plus (listed_after numbers s (before ++ x ∷ []) xs) (listed_after numbers s zs ys)) (append_assoc before (x ∷ []) xs))
        ∙ sym (plus-assoc first (listed_after numbers s (before ++ x ∷ []) xs) (listed_after numbers s (before ++ x ∷ xs) ys))

  -- none of the calls has a number that is below all of theirs
  only-past : (m : ℕ) (before calls : List ShardCall) → m < length before → only_after m s before calls ≡ no_counts
  only-past m before [] less = refl
  only-past m before (c ∷ cs) less = elim (eqb_tells m (length before)) [
    | inl here ↦ absurd (omega (arith, less, here.1))
    | inr there ↦
        ap (λ b. plus (cond b (stamped_by s before c) no_counts) (only_after m s (before ++ c ∷ []) cs)) there.0
        ∙ none-plus (only_after m s (before ++ c ∷ []) cs)
        ∙ only-past m (before ++ c ∷ []) cs (omega (arith, less, longer before c))
  ]

  only-is : (m d : ℕ) (before calls : List ShardCall) → m ≡ length before + d → only_after m s before calls ≡ counts_in (stamp_after s before calls d)
  only-is m d before [] e = refl
  only-is m zero before (c ∷ cs) e = elim (eqb_tells m (length before)) [
    | inl here ↦
        ap (λ b. plus (cond b (stamped_by s before c) no_counts) (only_after m s (before ++ c ∷ []) cs)) here.0
        ∙ ap (plus (stamped_by s before c)) (only-past m (before ++ c ∷ []) cs (omega (arith, e, longer before c)))
        ∙ plus-none (stamped_by s before c)
        ∙ stamped_is s before c
    | inr there ↦ absurd (there.1 (omega (arith, e)))
  ]
  only-is m (suc d) before (c ∷ cs) e = elim (eqb_tells m (length before)) [
    | inl here ↦ absurd (omega (arith, e, here.1))
    | inr there ↦
        ap (λ b. plus (cond b (stamped_by s before c) no_counts) (only_after m s (before ++ c ∷ []) cs)) there.0
        ∙ none-plus (only_after m s (before ++ c ∷ []) cs)
        ∙ only-is m d (before ++ c ∷ []) cs (omega (arith, e, longer before c))
  ]

  -- one number more counts its call at most
  one_more : (e b : Bool) (x : Counts) → IsAtMost (cond (cond e true b) x no_counts) (plus (cond e x no_counts) (cond b x no_counts))
  one_more true b x = (omega arith, omega arith)
  one_more false b x = (omega arith, omega arith)

  listed-cons : (m : ℕ) (ms : List ℕ) (before calls : List ShardCall) → IsAtMost (listed_after (m ∷ ms) s before calls) (plus (only_after m s before calls) (listed_after ms s before calls))
  listed-cons m ms before [] = (omega arith, omega arith)
  listed-cons m ms before (c ∷ cs) =
      let here = one_more (m == length before) (is_among (length before) ms) (stamped_by s before c) in
      let rest = listed-cons m ms (before ++ c ∷ []) cs in
      (omega (arith, here.0, rest.0), omega (arith, here.1, rest.1))

  nothing_listed : (before calls : List ShardCall) → listed_after [] s before calls ≡ no_counts
  nothing_listed before [] = refl
  nothing_listed before (c ∷ cs) = none-plus (listed_after [] s (before ++ c ∷ []) cs) ∙ nothing_listed (before ++ c ∷ []) cs

-- what stamps count
abbrev pub stamps_of : List (Option Params) → Counts
stamps_of stamps = record { delta = sum_by (λ o. (counts_in o).delta) stamps; rho = sum_by (λ o. (counts_in o).rho) stamps }

stamps_of-cons : (o : Option Params) (os : List (Option Params)) → stamps_of (o ∷ os) ≡ plus (counts_in o) (stamps_of os)
stamps_of-cons o os = same_counts _ _ (sum_by-cons (λ x. (counts_in x).delta) o os) (sum_by-cons (λ x. (counts_in x).rho) o os)

-- the calls with these numbers count at most the stamps of these numbers
listed-le : (s : ServerId) (numbers : List ℕ) (calls : List ShardCall) → IsAtMost (listed_after numbers s [] calls) (stamps_of (map (stamp_at s calls) numbers))
listed-le s [] calls = rw (nothing_listed s [] calls) (omega arith, omega arith)
listed-le s (m ∷ ms) calls =
    let more = listed-cons s m ms [] calls in
    let rest = listed-le s ms calls in
    let one = only-is s m m [] calls (omega arith) in
    let all = stamps_of-cons (stamp_at s calls m) (map (stamp_at s calls) ms) in
    (omega (arith, more.0, rest.0, same_deltas one, same_deltas all), omega (arith, more.1, rest.1, same_rhos one, same_rhos all))

-- ---- from one front of the calls to another

-- a shorter front, and the rest
front-rest : (x y : ℕ) (calls : List ShardCall) → x ≤ y → take y calls ≡ take x calls ++ drop x (take y calls)
front-rest x y calls le = sym (take-append-drop x (take y calls)) ∙ ap (λ zs. zs ++ drop x (take y calls)) (take-take x y calls le)

more_came : (C C' D : Counts) → C' ≡ plus C D → IsAtMost C C'
more_came C C' D e = (omega (arith, same_deltas e), omega (arith, same_rhos e))

-- a front has no more than a longer one
pub came-le : (x y : ℕ) (calls : List ShardCall) → x ≤ y → IsAtMost (came (take x calls)) (came (take y calls))
came-le x y calls le =
    more_came _ _ _ (ap came (front-rest x y calls le) ∙ came-append (take x calls) (drop x (take y calls)))

sums : (S K C G S' K' C' G' L O M B Z A E : Counts) → plus S K ≡ plus C G → plus S' K' ≡ plus C' G' → S' ≡ plus S (plus L O) → K' ≡ plus K M → G' ≡ plus G B
    → Z ≡ plus (plus A L) E → (T : Counts) → IsAtMost Z T → IsAtMost (plus C' B) (plus C (plus T (plus O M)))
sums S K C G S' K' C' G' L O M B Z A E a b c m d e T h = (
  omega (arith, same_deltas a, same_deltas b, same_deltas c, same_deltas m, same_deltas d, same_deltas e, h.0),
  omega (arith, same_rhos a, same_rhos b, same_rhos c, same_rhos m, same_rhos d, same_rhos e, h.1),
)

-- Both fronts end with a stamp for s, or the first is empty. What came in between, with what was given back between, is at most what
-- stamps of these numbers count, what the others do, and what was skipped between.
pub between_fronts : (s : ServerId) (numbers : List ℕ) (calls : List ShardCall) (x y : ℕ) → x ≤ y
    → plus (stamped s (take x calls)) (skipped s (take x calls)) ≡ plus (came (take x calls)) (given_back s (take x calls))
    → plus (stamped s (take y calls)) (skipped s (take y calls)) ≡ plus (came (take y calls)) (given_back s (take y calls))
    → IsAtMost (plus (came (take y calls)) (given_back s (drop (length (take x calls)) (take y calls))))
    (plus (came (take x calls)) (plus (stamps_of (map (stamp_at s calls) numbers))
    (plus (others_after numbers s (take x calls) (drop (length (take x calls)) (take y calls))) (skipped_after s (take x calls) (drop (length (take x calls)) (take y calls))))))
between_fronts s numbers calls x y le first last =
    let front = take x calls in
    let more = drop x (take y calls) in
    let whole = front-rest x y calls le in
    let between : drop (length front) (take y calls) ≡ more = ap (drop (length front)) whole ∙ drop-append_seam front more in
    let all : calls ≡ (front ++ more) ++ drop y calls = sym (take-append-drop y calls) ∙ ap (λ zs. zs ++ drop y calls) whole in
    let listed : listed_after numbers s [] calls ≡ plus (plus (listed_after numbers s [] front) (listed_after numbers s front more)) (listed_after numbers s (front ++ more) (drop y calls)) =
    ap (listed_after numbers s []) all ∙ listed-append s numbers [] (front ++ more) (drop y calls)
    ∙ ap (λ z. plus z (listed_after numbers s (front ++ more) (drop y calls))) (listed-append s numbers [] front more) in
    subst (λ zs. IsAtMost (plus (came (take y calls)) (given_back s zs)) (plus (came front) (plus (stamps_of (map (stamp_at s calls) numbers)) (plus (others_after numbers s front zs) (skipped_after s front zs))))) (sym between)
    (sums (stamped s front) (skipped s front) (came front) (given_back s front) (stamped s (take y calls)) (skipped s (take y calls)) (came (take y calls)) (given_back s (take y calls))
    (listed_after numbers s front more) (others_after numbers s front more) (skipped_after s front more) (given_back s more)
    (listed_after numbers s [] calls) (listed_after numbers s [] front) (listed_after numbers s (front ++ more) (drop y calls))
    first last (ap (stamped s) whole ∙ stamped-append s [] front more ∙ ap (plus (stamped s front)) (parted s numbers front more))
    (ap (skipped s) whole ∙ skipped-append s [] front more)
    (ap (given_back s) whole ∙ given_back-append s front more) listed
    (stamps_of (map (stamp_at s calls) numbers)) (listed-le s numbers calls))
