-- Passes that are gathered one after the other, and what a settled book's parts are then.
use Rattle.std.proofs.Common.{◌≡◌, ℕ, zero, suc, ◌+◌, ◌<◌, ◌≤◌, List, [], ◌∷◌, ◌++◌, length, map, refl, sym, ap, ◌∙◌, subst, take, drop, get_or, slice_index_or, slice_set, inl, inr, ◌⊎◌, arith}
use Rattle.std.specs.Prelude.{⊤, nat_lt}
use Rattle.std.specs.List.{AllByRecursion}
use Rattle.std.proofs.lemmas.Bool.{cases_lt, le-ltb, lt-ltb}
use Rattle.std.proofs.lemmas.List.{get_or_past, map-append}
use Rattle.dmc_types.specs.declared.config.PhaseType.{PhaseType}
use Rattle.dmc_types.specs.declared.config.PhaseType.TheVariants.{Reservation, Priority}
use Rattle.dmc_tag.specs.declared.event.Event.{Event}
use Rattle.dmc_ledger.specs.Accounts.{Account, Holding, after_closing}
use Rattle.dmc_ledger.specs.Bundles.{ClientSide, GrantHoldings, PhaseAccounts, PhaseHoldings}
use Rattle.dmc_ledger.specs.Moves.{ArePhaseOf}
use Rattle.dmc_book.specs.PerCount.{WorkerCounts, map_counts}
use Rattle.dmc_book.specs.BookState.{PassState, WorkerSide, no_desk, no_unit, no_worker}
use Rattle.dmc_book.specs.Consistent.{AreDesks, ArePhaseCounted, HasLeft, IsCounted, IsOpenBook, IsWorker, reaching}
use Rattle.dmc_book.specs.Counts.{counted_books, one_if}
use Rattle.dmc_book.specs.Moves.{AreOf, IsEnrolled}
use Rattle.dmc_book.specs.declared.settled.Amounts.{Amounts}
use Rattle.dmc_book.specs.Settling.{AreDeskUnits, AreSettledDesks, AreUnitsTakenIn, HasGathered, IsDeskTakenIn, IsGathered, IsPhaseTakenIn, IsSettledBook, IsSettledPhase, IsSettledWorker, IsTakenIn, amounts_in, closed_worker, left_in, no_amounts, open_passes}
use Rattle.dmc_book.specs.internal.Settling.{AreOneOpen, ArePassesTakenIn, IsOpenOrShut, IsShut, having}
use Rattle.dmc_lemmas.proofs.Lists.{all_append, all_as, all_at, all_mapped}
use Rattle.dmc_book.proofs.PerCountLemmas.{each_as, map_same}
use Rattle.dmc_book.proofs.OpeningLemmas.{all_popped, seam, split, taken}

-- ---- one after the other

module _ {X Y : Type 0} (P : Y → Type 0) (f : X → Y) (xs : List X) (i : ℕ) (x : X) (within : i < length xs) (is : x ≡ get_or xs i x) where
  pub all_more : AllByRecursion P (map f (take i xs)) → P (f x) → AllByRecursion P (map f (take (i + 1) xs))
  all_more h here = subst (AllByRecursion P) (sym (ap (map f) (taken xs i x within is) ∙ map-append f (take i xs) (x ∷ []))) (all_append P (map f (take i xs)) (f x ∷ []) h (here, tt))

  pub all_there : AllByRecursion P (map f xs) → P (f x)
  all_there h = all_at P (map f (take i xs)) (f x) (map f (drop (i + 1) xs)) (subst (AllByRecursion P) (ap (map f) (split xs i x within is) ∙ map-append f (take i xs) (x ∷ drop (i + 1) xs)) h)

-- the last of them is popped
module _ {X Y : Type 0} (P : Y → Type 0) (f : X → Y) (old new : List X) (x : X) (popped : old ≡ new ++ x ∷ []) where
  seen : map f old ≡ map f new ++ f x ∷ []
  seen = ap (map f) popped ∙ map-append f new (x ∷ [])

  pub all_left : AllByRecursion P (map f old) → AllByRecursion P (map f new) × P (f x)
  all_left h = all_popped P (map f new) (f x) (subst (AllByRecursion P) seen h)

  pub all_after : (all gone : List Y) → all ≡ map f old ++ gone → all ≡ map f new ++ f x ∷ gone
  all_after all gone h = h ∙ ap (λ ys. ys ++ gone) seen ∙ seam (map f new) gone (f x)

pub all_gone : {X Y : Type 0} (f : X → Y) (xs : List X) (all gone : List Y) → length xs ≡ 0 → all ≡ map f xs ++ gone → gone ≡ all
all_gone f [] all gone none h = sym h
all_gone f (x ∷ xs) all gone none h = absurd (omega (arith, none))

-- ---- the workers, some of them closed

-- each worker is as it was, or closed
abbrev pub ArePartly : List WorkerSide → List WorkerSide → Type 0
ArePartly [] [] = ⊤
ArePartly [] (v ∷ vs) = ⊥
ArePartly (w ∷ ws) [] = ⊥
ArePartly (w ∷ ws) (v ∷ vs) = ((v ≡ w) ⊎ (v ≡ closed_worker w)) × ArePartly ws vs

pub partly_start : (ws : List WorkerSide) → ArePartly ws ws
partly_start [] = tt
partly_start (w ∷ ws) = (inl refl, partly_start ws)

pub partly_long : (ws vs : List WorkerSide) → ArePartly ws vs → length vs ≡ length ws
partly_long [] [] h = refl
partly_long [] (v ∷ vs) h = absurd h
partly_long (w ∷ ws) [] h = absurd h
partly_long (w ∷ ws) (v ∷ vs) h = ap suc (partly_long ws vs h.1)

partly_at : (ws vs : List WorkerSide) (i : ℕ) → ArePartly ws vs → i < length ws → (slice_index_or vs i no_worker ≡ slice_index_or ws i no_worker) ⊎ (slice_index_or vs i no_worker ≡ closed_worker (slice_index_or ws i no_worker))
partly_at [] vs i h l = absurd (omega (arith, l))
partly_at (w ∷ ws) [] i h l = absurd h
partly_at (w ∷ ws) (v ∷ vs) zero h l = h.0
partly_at (w ∷ ws) (v ∷ vs) (suc i) h l = partly_at ws vs i h.1 (omega (arith, l))

one_at : (ws : List WorkerSide) (i : ℕ) → AllByRecursion IsOpenOrShut ws → i < length ws → IsOpenOrShut (slice_index_or ws i no_worker)
one_at [] i h l = absurd (omega (arith, l))
one_at (w ∷ ws) zero h l = h.0
one_at (w ∷ ws) (suc i) h l = one_at ws i h.1 (omega (arith, l))

-- the pass of a worker that is here
its_tills : (t : WorkerCounts Holding) (w v : WorkerSide) → (v ≡ w) ⊎ (v ≡ closed_worker w) → AreOf t w.books → AreOf t v.books
its_tills t w v (inl same) h = subst (λ (x : WorkerSide). AreOf t x.books) (sym same) h
its_tills t w v (inr shut) h = subst (λ (x : WorkerSide). AreOf t x.books) (sym shut) h

pub tills_at : (p : PassState) (ws vs : List WorkerSide) → ArePartly ws vs → IsEnrolled ws p → AreOf p.tills (slice_index_or vs p.place no_worker).books
tills_at p ws vs h e = its_tills p.tills (slice_index_or ws p.place no_worker) (slice_index_or vs p.place no_worker) (partly_at ws vs p.place h e.within) e.its_tills

-- of which a till is open: it is as it was
still_open : (w v : WorkerSide) → (v ≡ w) ⊎ (v ≡ closed_worker w) → 0 < v.books.calls.open_tills → v ≡ w
still_open w v (inl same) some = same
still_open w v (inr shut) some = (let none : v.books.calls.open_tills ≡ 0 = ap (λ (x : WorkerSide). x.books.calls.open_tills) shut in absurd (omega (arith, none, some)))

pub open_at : (ws vs : List WorkerSide) (i : ℕ) → ArePartly ws vs → i < length ws → 0 < (slice_index_or vs i no_worker).books.calls.open_tills → slice_index_or vs i no_worker ≡ slice_index_or ws i no_worker
open_at ws vs i h l some = still_open _ _ (partly_at ws vs i h l) some

one_if_open : (w : WorkerSide) → IsOpenOrShut w → 0 < w.books.calls.open_tills → AreOneOpen w.books
one_if_open w (inl one) some = one
one_if_open w (inr shut) some = absurd (omega (arith, some, shut.none_open))

pub one_open_at : (ws vs : List WorkerSide) (i : ℕ) → ArePartly ws vs → AllByRecursion IsOpenOrShut ws → i < length ws → 0 < (slice_index_or vs i no_worker).books.calls.open_tills → AreOneOpen (slice_index_or vs i no_worker).books
one_open_at ws vs i h one l some =
    let same = open_at ws vs i h l some in
    subst (λ (x : WorkerSide). AreOneOpen x.books) (sym same)
    (one_if_open (slice_index_or ws i no_worker) (one_at ws i one l) (subst (λ (x : WorkerSide). 0 < x.books.calls.open_tills) same some))

-- one more is closed
partly_set : (ws vs : List WorkerSide) (i : ℕ) → ArePartly ws vs → i < length ws → ArePartly ws (slice_set vs i (closed_worker (slice_index_or ws i no_worker)))
partly_set [] vs i h l = absurd (omega (arith, l))
partly_set (w ∷ ws) [] i h l = absurd h
partly_set (w ∷ ws) (v ∷ vs) zero h l = (inr refl, h.1)
partly_set (w ∷ ws) (v ∷ vs) (suc i) h l = (h.0, partly_set ws vs i h.1 (omega (arith, l)))

pub partly_more : (ws vs : List WorkerSide) (i : ℕ) → ArePartly ws vs → i < length ws → 0 < (slice_index_or vs i no_worker).books.calls.open_tills → ArePartly ws (slice_set vs i (closed_worker (slice_index_or vs i no_worker)))
partly_more ws vs i h l some = subst (λ (x : WorkerSide). ArePartly ws (slice_set vs i (closed_worker x))) (sym (open_at ws vs i h l some)) (partly_set ws vs i h l)

pub open_less : (vs : List WorkerSide) (i : ℕ) (v : WorkerSide) → i < length vs → v.books.calls.open_tills ≡ 0 → (slice_index_or vs i no_worker).books.calls.open_tills ≡ 1 → open_passes (slice_set vs i v) + 1 ≡ open_passes vs
open_less [] i v l none one = absurd (omega (arith, l))
open_less (w ∷ vs) zero v l none one =
    let gone = ap (λ n. one_if (nat_lt 0 n)) none in
    let was = ap (λ n. one_if (nat_lt 0 n)) one in
    omega (arith, gone, was)
open_less (w ∷ vs) (suc i) v l none one = let rest = open_less vs i v (omega (arith, l)) none one in omega (arith, rest)

none_open : (n : ℕ) → one_if (nat_lt 0 n) ≡ 0 → n ≡ 0
none_open n h = by_case (cases_lt 0 n) where
  by_case : (0 < n) ⊎ (n ≤ 0) → n ≡ 0
  by_case (inl some) = (let one : one_if (nat_lt 0 n) ≡ 1 = ap one_if (lt-ltb 0 n some) in absurd (omega (arith, h, one)))
  by_case (inr most) = omega (arith, most)

-- and if none is open, all are
all_shut : (w v : WorkerSide) → (v ≡ w) ⊎ (v ≡ closed_worker w) → IsOpenOrShut w → v.books.calls.open_tills ≡ 0 → v ≡ closed_worker w
all_shut w v (inl same) (inl one) none = (let e : v.books.calls.open_tills ≡ w.books.calls.open_tills = ap (λ (x : WorkerSide). x.books.calls.open_tills) same in absurd (omega (arith, one.0, none, e)))
all_shut w v (inl same) (inr shut) none = same ∙ sym shut.closed
all_shut w v (inr shut) one none = shut

pub partly_end : (ws vs : List WorkerSide) → ArePartly ws vs → AllByRecursion IsOpenOrShut ws → open_passes vs ≡ 0 → vs ≡ map closed_worker ws
partly_end [] [] h one none = refl
partly_end [] (v ∷ vs) h one none = absurd h
partly_end (w ∷ ws) [] h one none = absurd h
partly_end (w ∷ ws) (v ∷ vs) h one none =
    ap (λ x. x ∷ vs) (all_shut w v h.0 one.0 (none_open v.books.calls.open_tills (omega (arith, none)))) ∙ ap (λ xs. closed_worker w ∷ xs) (partly_end ws vs h.1 one.1 (omega (arith, none)))

open_append : (ws vs : List WorkerSide) → open_passes (ws ++ vs) ≡ open_passes ws + open_passes vs
open_append [] vs = omega arith
open_append (w ∷ ws) vs = let rest = open_append ws vs in omega (arith, rest)

-- one worker more is counted
pub open_more : {X : Type 0} (f : X → WorkerSide) (xs : List X) (i : ℕ) (x : X) → i < length xs → x ≡ get_or xs i x → open_passes (map f (take (i + 1) xs)) ≡ open_passes (map f (take i xs)) + one_if (nat_lt 0 (f x).books.calls.open_tills)
open_more f xs i x within is =
    let last : open_passes (f x ∷ []) ≡ one_if (nat_lt 0 (f x).books.calls.open_tills) = omega arith in
    ap open_passes (ap (map f) (taken xs i x within is) ∙ map-append f (take i xs) (x ∷ [])) ∙ open_append (map f (take i xs)) (f x ∷ []) ∙ ap (λ n. open_passes (map f (take i xs)) + n) last

-- ---- which desks the workers reach whose till is still open

abbrev if_open : ℕ → ℕ → ℕ
if_open zero n = 0
if_open (suc tills) n = n

abbrev pub still_reaching : ℕ → List WorkerSide → ℕ
still_reaching k [] = 0
still_reaching k (w ∷ ws) = if_open w.books.calls.open_tills (one_if (nat_lt k w.reach)) + still_reaching k ws

reached_before : (k : ℕ) (w : WorkerSide) → IsOpenOrShut w → if_open w.books.calls.open_tills (one_if (nat_lt k w.reach)) ≡ one_if (nat_lt k w.reach)
reached_before k w (inl one) = ap (λ n. if_open n (one_if (nat_lt k w.reach))) one.0
reached_before k w (inr shut) = ap (λ n. if_open n (one_if (nat_lt k w.reach))) shut.none_open ∙ sym (ap one_if (le-ltb k w.reach (omega (arith, shut.reach))))

pub reaching_start : (k : ℕ) (ws : List WorkerSide) → AllByRecursion IsOpenOrShut ws → still_reaching k ws ≡ reaching k ws
reaching_start k [] h = refl
reaching_start k (w ∷ ws) h =
    let here = reached_before k w h.0 in
    let rest = reaching_start k ws h.1 in
    omega (arith, here, rest)

pub reaching_less : (k : ℕ) (vs : List WorkerSide) (i : ℕ) (v : WorkerSide) → i < length vs → v.books.calls.open_tills ≡ 0 → (slice_index_or vs i no_worker).books.calls.open_tills ≡ 1
    → one_if (nat_lt k (slice_index_or vs i no_worker).reach) + still_reaching k (slice_set vs i v) ≡ still_reaching k vs
reaching_less k [] i v l none one = absurd (omega (arith, l))
reaching_less k (w ∷ vs) zero v l none one =
    let gone = ap (λ n. if_open n (one_if (nat_lt k v.reach))) none in
    let was = ap (λ n. if_open n (one_if (nat_lt k w.reach))) one in
    omega (arith, gone, was)
reaching_less k (w ∷ vs) (suc i) v l none one = let rest = reaching_less k vs i v (omega (arith, l)) none one in omega (arith, rest)

pub reaching_end : (k : ℕ) (vs : List WorkerSide) → open_passes vs ≡ 0 → still_reaching k vs ≡ 0
reaching_end k [] none = refl
reaching_end k (v ∷ vs) none =
    let shut : v.books.calls.open_tills ≡ 0 = none_open v.books.calls.open_tills (omega (arith, none)) in
    let here = ap (λ n. if_open n (one_if (nat_lt k v.reach))) shut in
    let rest = reaching_end k vs (omega (arith, none)) in
    omega (arith, here, rest)

-- ---- the desks

taken_none : (a : Account) → IsTakenIn 0 0 a a
taken_none a = record { number = refl; gathered = omega arith; total = refl; open_tills = omega arith }

taken_more : (n m u v : ℕ) (a b c : Account) → IsTakenIn n u a b → IsTakenIn m v b c → IsTakenIn (m + n) (v + u) a c
taken_more n m u v a b c h j = record {
  number = j.number ∙ h.number;
  gathered = omega (arith, h.gathered, j.gathered);
  total = j.total ∙ h.total;
  open_tills = omega (arith, h.open_tills, j.open_tills);
}

phase_none : (a : PhaseAccounts) → IsPhaseTakenIn 0 no_amounts a a
phase_none a = record { grants = taken_none a.grants; cost = taken_none a.cost }

phase_more : (n m : ℕ) (tills : PhaseHoldings) (left : Amounts) (a b c : PhaseAccounts) → IsPhaseTakenIn n left a b → IsPhaseTakenIn m (amounts_in tills) b c
    → IsPhaseTakenIn (m + n) (record { grants = tills.grants.amount + left.grants; cost = tills.cost.amount + left.cost }) a c
phase_more n m tills left a b c h j = record {
  grants = taken_more n m left.grants tills.grants.amount a.grants b.grants c.grants h.grants j.grants;
  cost = taken_more n m left.cost tills.cost.amount a.cost b.cost c.cost h.cost j.cost;
}

pub passes_none : (ds : List ClientSide) → ArePassesTakenIn [] ds ds
passes_none ds = record {
  as_many = refl;
  each = λ k l. record { its = refl; reservations = phase_none _; priorities = phase_none _ };
}

-- beyond the tills there is none to gather
pub unit_past : (units : List GrantHoldings) (k : ℕ) (d : ClientSide) → length units ≤ k → IsDeskTakenIn (one_if (nat_lt k (length units))) (amounts_in (slice_index_or units k no_unit).reservation) (amounts_in (slice_index_or units k no_unit).priority) d d
unit_past units k d past =
    let none : one_if (nat_lt k (length units)) ≡ 0 = ap one_if (le-ltb k (length units) past) in
    rw (none, get_or_past units k no_unit past) (record { its = refl; reservations = phase_none d.books.reservation; priorities = phase_none d.books.priority })

desk_more : (n m k : ℕ) (p : PassState) (ps : List PassState) (a b c : ClientSide) → IsDeskTakenIn n (left_in Reservation k ps) (left_in Priority k ps) a b
    → IsDeskTakenIn m (amounts_in (slice_index_or p.units k no_unit).reservation) (amounts_in (slice_index_or p.units k no_unit).priority) b c
    → IsDeskTakenIn (m + n) (left_in Reservation k (p ∷ ps)) (left_in Priority k (p ∷ ps)) a c
desk_more n m k p ps a b c h j =
    let u = slice_index_or p.units k no_unit in
    record {
      its = j.its ∙ ap (λ (x : ClientSide). record x { books = c.books }) h.its;
      reservations = phase_more n m u.reservation (left_in Reservation k ps) a.books.reservation b.books.reservation c.books.reservation h.reservations j.reservations;
      priorities = phase_more n m u.priority (left_in Priority k ps) a.books.priority b.books.priority c.books.priority h.priorities j.priorities;
    }

pub passes_more : (p : PassState) (ps : List PassState) (ds es fs : List ClientSide) → ArePassesTakenIn ps ds es → AreUnitsTakenIn p.units es fs → ArePassesTakenIn (p ∷ ps) ds fs
passes_more p ps ds es fs h j = record {
  as_many = j.as_many ∙ h.as_many;
  each = λ k l. desk_more (having k ps) (one_if (nat_lt k (length p.units))) k p ps (slice_index_or ds k no_desk) (slice_index_or es k no_desk) (slice_index_or fs k no_desk) (h.each k l) (j.each k (omega (arith, h.as_many, l)));
}

phase_at : (tills : PhaseHoldings) (n : ℕ) (amounts : Amounts) (a b : PhaseAccounts) → IsPhaseTakenIn n amounts a b → ArePhaseOf tills a → ArePhaseOf tills b
phase_at tills n amounts a b h of = record { grants = of.grants ∙ sym h.grants.number; cost = of.cost ∙ sym h.cost.number }

-- the tills of a pass are of the desks, whatever these gathered
pub units_at : (units : List GrantHoldings) (ps : List PassState) (ds es : List ClientSide) → ArePassesTakenIn ps ds es → AreDeskUnits ds units → AreDeskUnits es units
units_at units ps ds es h own = record {
  within = omega (arith, own.within, h.as_many);
  each = λ k l. (let inside : k < length ds = omega (arith, own.within, l) in record {
    reservation = phase_at _ _ _ _ _ (h.each k inside).reservations (own.each k l).reservation;
    priority = phase_at _ _ _ _ _ (h.each k inside).priorities (own.each k l).priority;
  });
}

-- ---- books that were gathered before

account_closed : (b : Account) → b.held ≡ 0 → b.open_tills ≡ 0 → after_closing b ≡ b
account_closed b none shut =
    let total : b.gathered + b.held ≡ b.gathered = omega (arith, none) in
    ap (λ (n : ℕ). let a : Account = record { number = b.number; gathered = n; held = 0; open_tills = 0 } in a) total
    ∙ ap (λ (n : ℕ). let a : Account = record { number = b.number; gathered = b.gathered; held = n; open_tills = 0 } in a) (sym none)
    ∙ ap (λ (n : ℕ). let a : Account = record { number = b.number; gathered = b.gathered; held = b.held; open_tills = n } in a) (sym shut)

-- ---- a consistent book's workers and desks, once its passes are gathered

module _ {T : Type 0} where
  gathered_all : (adds : Event T → ℕ) (es : List (Event T)) (b : Account) → IsCounted adds es 1 b → IsGathered adds es (after_closing b)
  gathered_all adds es b h = record { gathered = h.total; held = refl; open_tills = refl }

  pub settled_worker : (es : List (Event T)) (w : WorkerSide) → IsWorker es w → IsSettledWorker es (closed_worker w)
  settled_worker es w h = each_as (IsOpenBook es) (λ c. IsGathered c.adds (drop c.from es) (after_closing c.book))
      (λ c is. gathered_all c.adds (drop c.from es) c.book is) (counted_books w) h.books

  closed_before : (es : List (Event T)) (w : WorkerSide) → HasLeft es w → map_counts after_closing w.books ≡ w.books
  closed_before es w h = map_same after_closing w.books (
      each_as (HasGathered es) (λ c. after_closing c.book ≡ c.book) (λ c was. account_closed c.book was.held was.open_tills) (counted_books w) h.settled)

  -- one that was dismissed is closed before
  left_is_shut : (es : List (Event T)) (w : WorkerSide) → HasLeft es w → IsShut w
  left_is_shut es w h = record {
    closed = ap (λ (bs : WorkerCounts Account). let v : WorkerSide = record w { reach = 0; books = bs } in v) (closed_before es w h)
        ∙ ap (λ (n : ℕ). let v : WorkerSide = record w { reach = n } in v) (sym h.reach);
    none_open = h.settled.0.open_tills;
    reach = h.reach;
  }

  settled_either : (es : List (Event T)) (w : WorkerSide) → IsWorker es w ⊎ HasLeft es w → IsSettledWorker es (closed_worker w)
  settled_either es w (inl is) = settled_worker es w is
  settled_either es w (inr left) = subst (IsSettledWorker es) (sym (left_is_shut es w left).closed) left.settled

  pub settled_workers : (es : List (Event T)) (ws : List WorkerSide) → AllByRecursion (λ w. IsWorker es w ⊎ HasLeft es w) ws → AllByRecursion (IsSettledWorker es) (map closed_worker ws)
  settled_workers es ws h = all_mapped (λ w. IsWorker es w ⊎ HasLeft es w) (IsSettledWorker es) closed_worker (settled_either es) ws h

  pub one_open : (es : List (Event T)) (w : WorkerSide) → IsWorker es w → AreOneOpen w.books
  one_open es w is = each_as (IsOpenBook es) (λ c. c.book.open_tills ≡ 1) (λ c is. is.open_tills) (counted_books w) is.books

  open_or_shut : (es : List (Event T)) (w : WorkerSide) → IsWorker es w ⊎ HasLeft es w → IsOpenOrShut w
  open_or_shut es w (inl is) = inl (one_open es w is)
  open_or_shut es w (inr left) = inr (left_is_shut es w left)

  pub all_open_or_shut : (es : List (Event T)) (ws : List WorkerSide) → AllByRecursion (λ w. IsWorker es w ⊎ HasLeft es w) ws → AllByRecursion IsOpenOrShut ws
  all_open_or_shut es ws h = all_as _ _ (open_or_shut es) ws h

  settled_book : (adds : Event T → ℕ) (es : List (Event T)) (n m u : ℕ) (a b : Account) → n ≡ m → IsCounted adds es (1 + m) a → IsTakenIn n u a b → IsSettledBook adds es u a b
  settled_book adds es n m u a b same h j = record {
    number = j.number;
    total = j.total ∙ h.total;
    gathered = omega (arith, h.gathered, j.gathered);
    open_tills = omega (arith, same, h.open_tills, j.open_tills);
  }

  settled_phase : {client : ℕ} {phase : PhaseType} (es : List (Event T)) (n m : ℕ) (held : Amounts) (a b : PhaseAccounts) → n ≡ m → ArePhaseCounted client phase es (1 + m) a → IsPhaseTakenIn n held a b → IsSettledPhase client phase es held a b
  settled_phase es n m held a b same h j = record {
    grants = settled_book _ es n m held.grants a.grants b.grants same h.grants j.grants;
    cost = settled_book _ es n m held.cost a.cost b.cost same h.cost j.cost;
  }

  pub settled_desks : (es : List (Event T)) (server : ℕ) (ws : List WorkerSide) (ps : List PassState) (ds fs : List ClientSide) → ((k : ℕ) → having k ps ≡ reaching k ws) → AreDesks es server ws ds → ArePassesTakenIn ps ds fs → AreSettledDesks es ps ds fs
  settled_desks es server ws ps ds fs same all h = record {
    as_many = h.as_many;
    each = λ k l. (
        let d = slice_index_or ds k no_desk in
        let f = slice_index_or fs k no_desk in
        let was = all k l in
        let now = h.each k l in
        record {
          its = now.its;
          stamps = ap (λ (x : ClientSide). x.held.stamps.amount) now.its ∙ was.stamps;
          delta = ap (λ (x : ClientSide). x.held.delta.amount) now.its ∙ was.delta;
          rho = ap (λ (x : ClientSide). x.held.rho.amount) now.its ∙ was.rho;
          reservations = settled_phase es (having k ps) (reaching k ws) (left_in Reservation k ps) d.books.reservation f.books.reservation (same k) was.reservation now.reservations;
          priorities = settled_phase es (having k ps) (reaching k ws) (left_in Priority k ps) d.books.priority f.books.priority (same k) was.priority now.priorities;
        });
  }
