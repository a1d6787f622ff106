-- Accounts with a worker more are consistent.
use Rattle.std.proofs.Common.{◌≡◌, ℕ, ◌+◌, ◌<◌, Bool, true, false, List, [], ◌∷◌, ◌++◌, map, length, length-append, refl, sym, ap, ◌∙◌, subst, arith, inl, ◌⊎◌}
use Rattle.std.specs.Prelude.{◌==◌, ◌||◌, nat_lt, if◌then◌else◌, option_map, slice_index_or}
use Rattle.std.specs.List.{AllByRecursion, list_any}
use Rattle.std.proofs.lemmas.Bool.{eqb-true, lt-ltb, or_parts}
use Rattle.std.proofs.lemmas.List.{get_or-map, length-map}
use Rattle.std.proofs.lemmas.List.Folds.{list_any-append}
use Rattle.dmc_types.specs.Limits.{max_open_tills}
use Rattle.dmc_types.specs.declared.ids.WorkerId.{WorkerId}
use Rattle.dmc_tag.specs.declared.event.Event.{Event}
use Rattle.dmc_lemmas.proofs.Lists.{all_as, all_next}
use Rattle.dmc_ledger.specs.Accounts.{new_book}
use Rattle.dmc_book.specs.BookState.{AccountsState, WorkerSide, no_desk}
use Rattle.dmc_book.specs.Consistent.{AreConsistent, AreDesks, AreTokensFit, AreWorkersApart, HasLeft, IsCounted, IsSeated, IsWorker, reaching}
use Rattle.dmc_book.specs.Counts.{accepted, count, grant_in, no_numbers, numbers_of, one_if, worker_adds}
use Rattle.dmc_book.specs.internal.Enrolling.{accounts_enrolled}
use Rattle.dmc_book.specs.Moves.{IsOpen}
use Rattle.dmc_book.specs.Opening.{desk_with_tills, new_worker}
use Rattle.dmc_book.specs.internal.Opening.{HaveRoom}
use Rattle.dmc_book.specs.PerCount.{WorkerCounts}
use Rattle.dmc_book.proofs.ExtendingLemmas.{apart_from, desk_opened, has_from, phase_room, reached_at_most}
use Rattle.dmc_book.proofs.JoiningLemmas.{nothing_counted}

either_false : (b : Bool) → (b ≡ true → ⊥) → b ≡ false
either_false true never = absurd (never refl)
either_false false never = refl

-- ---- a worker that was not enrolled made no call

module _ {T : Type 0} (ws : List WorkerSide) (w : ℕ) (unknown : IsSeated ws w → ⊥) (es : List (Event T)) (seated : AllByRecursion (λ e. IsSeated ws e.worker.0) es) where
  other : (e : Event T) → IsSeated ws e.worker.0 → (e.worker.0 == w) ≡ false
  other e is = either_false (e.worker.0 == w) (λ same. unknown (subst (IsSeated ws) (eqb-true e.worker.0 w same) is))

  module _ (number : WorkerCounts ℕ → ℕ) (none : number no_numbers ≡ 0) where
    not_counted : count (λ e. number (worker_adds w e)) es ≡ 0
    not_counted = nothing_counted (λ e. number (worker_adds w e)) es
        (all_as _ _ (λ e is. ap (λ b. number (if b then numbers_of e.command e.reply else no_numbers)) (other e is) ∙ none) es seated)

    begins : (n : ℕ) → IsCounted (λ e. number (worker_adds w e)) es 1 (new_book n)
    begins n = record { total = sym not_counted; gathered = refl; open_tills = refl }

  begins_all : (reach n : ℕ) → IsWorker es (new_worker reach n (record { 0 = w }))
  begins_all reach n = record {
    renewed = omega arith;
    books = (begins (λ m. m.calls) refl n, begins (λ m. m.misses) refl (n + 1), begins (λ m. m.tokens) refl (n + 2), begins (λ m. m.grants) refl (n + 3), begins (λ m. m.granted) refl (n + 4), begins (λ m. m.cost) refl (n + 5));
  }

-- ---- a worker more

reaching_more : (k : ℕ) (ws : List WorkerSide) (v : WorkerSide) → k < v.reach → reaching k (ws ++ v ∷ []) ≡ 1 + reaching k ws
reaching_more k [] v below = let here : one_if (nat_lt k v.reach) ≡ 1 = ap one_if (lt-ltb k v.reach below) in omega (arith, here)
reaching_more k (w ∷ ws) v below = let rest = reaching_more k ws v below in omega (arith, rest)

apart_more : (ws : List WorkerSide) (v : WorkerSide) → AreWorkersApart ws → list_any (λ w. v.worker == w.worker) ws ≡ false → AreWorkersApart (ws ++ v ∷ [])
apart_more [] v apart none = (tt, tt)
apart_more (w ∷ ws) v apart none =
    let two = or_parts (v.worker == w.worker) _ none in
    (all_next (λ o. (o.worker == w.worker) ≡ false) ws v apart.0 two.0, apart_more ws v apart.1 two.1)

module _ {T : Type 0} (a : AccountsState T) (h : AreConsistent a) (few : length a.workers < 4294967294) where
  pub room_for_one_more : (k : ℕ) → k < length a.desks → HaveRoom (slice_index_or a.desks k no_desk).books
  room_for_one_more k within =
      let most = reached_at_most k a.workers in
      let was = h.desks k within in
      let within : 1 + reaching k a.workers < max_open_tills = omega (arith, few, most) in
      record { reservation = phase_room a.history (1 + reaching k a.workers) _ was.reservation within; priority = phase_room a.history (1 + reaching k a.workers) _ was.priority within }

  module _ (n : ℕ) (w : WorkerId) (unknown : IsSeated a.workers w.0 → ⊥) where
    abbrev seat : WorkerSide
    seat = new_worker (length a.desks) n w

    desks_reached : AreDesks a.history a.server (a.workers ++ seat ∷ []) (map (desk_with_tills 1) a.desks)
    desks_reached k l =
        let within : k < length a.desks = omega (arith, l, length-map a.desks (desk_with_tills 1)) in
        rw (reaching_more k a.workers seat within, get_or-map (desk_with_tills 1) a.desks k no_desk no_desk within)
        (desk_opened a.history a.server (reaching k a.workers) (slice_index_or a.desks k no_desk) (h.desks k within))

    still_seated : (m : ℕ) → IsSeated a.workers m → IsSeated (a.workers ++ seat ∷ []) m
    still_seated m is = list_any-append (λ v. m == v.worker) a.workers (seat ∷ []) ∙ ap (λ b. b || list_any (λ (v : WorkerSide). m == v.worker) (seat ∷ [])) is

    pub consistent_enrolled : AreConsistent (accounts_enrolled n w a)
    consistent_enrolled = record {
      workers = all_next (λ v. IsWorker a.history v ⊎ HasLeft a.history v) a.workers seat h.workers (inl (begins_all a.workers w.0 unknown a.history h.seated (length a.desks) n));
      desks = desks_reached;
      reach = all_next _ a.workers seat (all_as _ _ (λ v l. omega (arith, l, length-map a.desks (desk_with_tills 1))) a.workers h.reach) (omega (arith, length-map a.desks (desk_with_tills 1)));
      workers_apart = apart_more a.workers seat h.workers_apart (either_false (list_any (λ v. w.0 == v.worker) a.workers) unknown);
      clients_apart = apart_from 0 a.desks h.clients_apart;
      granted = all_as _ _ (λ e. has_from 0 a.desks (option_map (λ g. g.client) (grant_in e.reply))) a.history h.granted;
      queued = all_as _ _ (λ e. has_from 0 a.desks (option_map (λ s. s.0) (accepted e))) a.history h.queued;
      seated = all_as _ _ (λ e. still_seated e.worker.0) a.history h.seated;
      tokens_fit = all_next (λ v. IsOpen v → AreTokensFit a.first (length a.history) v.books) a.workers seat h.tokens_fit (λ still. record { tokens = omega (arith, h.within); granted = omega (arith, h.within) });
      cost_fits = h.cost_fits;
      within = h.within;
      few = h.few;
      limit = h.limit;
      few_workers = omega (arith, few, length-append a.workers (seat ∷ []));
    }

-- ---- whether a worker is enrolled

pub none_seated : (n : ℕ) (ws : List WorkerSide) → AllByRecursion (λ w. (n == w.worker) ≡ false) ws → list_any (λ w. n == w.worker) ws ≡ false
none_seated n [] none = refl
none_seated n (w ∷ ws) none = ap (λ b. b || list_any (λ (v : WorkerSide). n == v.worker) ws) none.0 ∙ none_seated n ws none.1

none_of : (n : ℕ) (ws : List WorkerSide) → list_any (λ w. n == w.worker) ws ≡ false → AllByRecursion (λ w. (n == w.worker) ≡ false) ws
none_of n [] none = tt
none_of n (w ∷ ws) none = (let two = or_parts (n == w.worker) _ none in (two.0, none_of n ws two.1))

pub seated_unless : (n : ℕ) (ws : List WorkerSide) → (AllByRecursion (λ w. (n == w.worker) ≡ false) ws → ⊥) → IsSeated ws n
seated_unless n ws never = by_case (list_any (λ w. n == w.worker) ws) refl where
  by_case : (b : Bool) → list_any (λ w. n == w.worker) ws ≡ b → b ≡ true
  by_case true e = refl
  by_case false e = absurd (never (none_of n ws e))
