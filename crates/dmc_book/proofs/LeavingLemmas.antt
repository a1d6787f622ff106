-- Accounts where one worker left are consistent.
use Rattle.std.proofs.Common.{◌≡◌, ℕ, zero, suc, ◌+◌, ◌<◌, ◌≤◌, List, [], ◌∷◌, map, length, refl, sym, ap, ◌∙◌, subst, inr, ◌⊎◌, arith}
use Rattle.std.specs.Prelude.{nat_lt, option_map, slice_index_or, slice_set}
use Rattle.std.specs.List.{AllByRecursion}
use Rattle.std.proofs.lemmas.Bool.{le-ltb}
use Rattle.std.proofs.lemmas.List.{ext_get_or, get_or-map, length-map, length-set}
use Rattle.dmc_types.specs.declared.config.PhaseType.{PhaseType}
use Rattle.dmc_tag.specs.declared.event.Event.{Event}
use Rattle.dmc_lemmas.proofs.Lists.{all_as}
use Rattle.dmc_ledger.specs.Accounts.{Account}
use Rattle.dmc_ledger.specs.Bundles.{ClientSide, GrantHoldings, PhaseAccounts, PhaseHoldings, client_side}
use Rattle.dmc_ledger.specs.declared.desk.ClientDesk.{ClientDesk}
use Rattle.dmc_book.specs.BookState.{AccountsState, PassState, WorkerSide, no_desk, no_unit, no_worker}
use Rattle.dmc_book.specs.Consistent.{AreConsistent, AreDesks, ArePhaseCounted, AreTokensFit, HasLeft, IsCounted, IsDesk, IsWorker, reaching}
use Rattle.dmc_book.specs.Counts.{accepted, grant_in, one_if}
use Rattle.dmc_book.specs.Joining.{id_of}
use Rattle.dmc_book.specs.Leaving.{HoldsNoGrant, HoldsNothing, MayLeave}
use Rattle.dmc_book.specs.Moves.{IsOpen}
use Rattle.dmc_book.specs.Settling.{AreUnitsTakenIn, IsDeskTakenIn, IsPhaseTakenIn, IsTakenIn, amounts_in, closed_worker}
use Rattle.dmc_book.specs.internal.Settling.{AreOneOpen}
use Rattle.dmc_book.proofs.ExtendingLemmas.{apart_as, has_as}
use Rattle.dmc_book.proofs.OpeningLemmas.{names_by_sides}
use Rattle.dmc_book.proofs.RenewingLemmas.{all_set, apart_set, seated_set, worker_there}
use Rattle.dmc_book.proofs.SettlingLemmas.{one_open, settled_worker}

-- there is no unit at any place
nothing_at : (units : List GrantHoldings) (k : ℕ) → AllByRecursion HoldsNothing units → HoldsNothing (slice_index_or units k no_unit)
nothing_at [] k none = record { reservation = record { grants = refl; cost = refl }; priority = record { grants = refl; cost = refl } }
nothing_at (u ∷ us) zero none = none.0
nothing_at (u ∷ us) (suc k) none = nothing_at us k none.1

-- the desks that the worker reached are reached by one fewer
reaching_fewer : (k : ℕ) (ws : List WorkerSide) (i : ℕ) (v : WorkerSide) → i < length ws → v.reach ≡ 0 → one_if (nat_lt k (slice_index_or ws i no_worker).reach) + reaching k (slice_set ws i v) ≡ reaching k ws
reaching_fewer k [] i v within none = absurd (omega (arith, within))
reaching_fewer k (w ∷ ws) zero v within none = (let gone : one_if (nat_lt k v.reach) ≡ 0 = ap one_if (le-ltb k v.reach (omega (arith, none))) in omega (arith, gone))
reaching_fewer k (w ∷ ws) (suc i) v within none = let rest = reaching_fewer k ws i v (omega (arith, within)) none in omega (arith, rest)

module _ {T : Type 0} where
  counted_after : (adds : Event T → ℕ) (es : List (Event T)) (tills before later amount : ℕ) (a b : Account) → amount ≡ 0 → tills + later ≡ before → IsCounted adds es (1 + before) a → IsTakenIn tills amount a b → IsCounted adds es (1 + later) b
  counted_after adds es tills before later amount a b none fewer h t = record {
    total = t.total ∙ h.total;
    gathered = omega (arith, none, t.gathered, h.gathered);
    open_tills = omega (arith, fewer, t.open_tills, h.open_tills);
  }

  phase_after : {client : ℕ} {phase : PhaseType} (es : List (Event T)) (tills before later : ℕ) (held : PhaseHoldings) (a b : PhaseAccounts) → HoldsNoGrant held → tills + later ≡ before → ArePhaseCounted client phase es (1 + before) a
      → IsPhaseTakenIn tills (amounts_in held) a b → ArePhaseCounted client phase es (1 + later) b
  phase_after es tills before later held a b none fewer h t = record {
    grants = counted_after _ es tills before later held.grants.amount a.grants b.grants none.grants fewer h.grants t.grants;
    cost = counted_after _ es tills before later held.cost.amount a.cost b.cost none.cost fewer h.cost t.cost;
  }

  desk_after : (es : List (Event T)) (server tills before later : ℕ) (held : GrantHoldings) (d : ClientSide) (new : ClientSide) → HoldsNothing held → tills + later ≡ before → IsDesk es server before d
      → IsDeskTakenIn tills (amounts_in held.reservation) (amounts_in held.priority) d new → IsDesk es server later new
  desk_after es server tills before later held d new none fewer h t =
      let is : IsDesk es server later (record d { books = new.books }) = record {
        its_server = h.its_server;
        stamps = h.stamps;
        delta = h.delta;
        rho = h.rho;
        reservation = phase_after es tills before later held.reservation d.books.reservation new.books.reservation none.reservation fewer h.reservation t.reservations;
        priority = phase_after es tills before later held.priority d.books.priority new.books.priority none.priority fewer h.priority t.priorities;
      } in
      subst (IsDesk es server later) (sym t.its) is

module _ {T : Type 0} (a : AccountsState T) (h : AreConsistent a) (p : PassState) (may : MayLeave a.workers a.desks p) where
  abbrev leaving : WorkerSide
  leaving = slice_index_or a.workers p.place no_worker

  is_worker : IsWorker a.history leaving
  is_worker = worker_there a p.place may.own.enrolled.within may.own.enrolled.still h

  pub one_is_open : AreOneOpen leaving.books
  one_is_open = one_open a.history leaving is_worker

  module _ (new : List ClientSide) (taken : AreUnitsTakenIn p.units a.desks new) where
    abbrev gone : List WorkerSide
    gone = slice_set a.workers p.place (closed_worker leaving)

    desks_now : AreDesks a.history a.server gone new
    desks_now k l =
        let inside : k < length a.desks = omega (arith, l, taken.as_many) in
        let none = nothing_at p.units k may.responded in
        let same : one_if (nat_lt k (length p.units)) ≡ one_if (nat_lt k leaving.reach) = ap (λ n. one_if (nat_lt k n)) may.own.reach in
        let fewer = reaching_fewer k a.workers p.place (closed_worker leaving) may.own.enrolled.within refl in
        desk_after a.history a.server (one_if (nat_lt k (length p.units))) (reaching k a.workers) (reaching k gone) (slice_index_or p.units k no_unit) (slice_index_or a.desks k no_desk) (slice_index_or new k no_desk) none (omega (arith, same, fewer)) (h.desks k inside) (taken.each k inside)

    pub same_ids : map id_of new ≡ map id_of a.desks
    same_ids =
        let long : length (map id_of new) ≡ length (map id_of a.desks) = length-map new id_of ∙ taken.as_many ∙ sym (length-map a.desks id_of) in
        ext_get_or (id_of no_desk) (map id_of new) (map id_of a.desks) long
        (λ k within.
        let here : k < length new = omega (arith, within, length-map new id_of) in
        let there : k < length a.desks = omega (arith, here, taken.as_many) in
        get_or-map id_of new k no_desk (id_of no_desk) here ∙ ap id_of (taken.each k there).its ∙ sym (get_or-map id_of a.desks k no_desk (id_of no_desk) there))

    pub consistent_left : AreConsistent (record a { workers = gone; desks = new })
    consistent_left =
        let v = closed_worker leaving in
        record {
          workers = all_set (λ w. IsWorker a.history w ⊎ HasLeft a.history w) a.workers p.place v h.workers (inr (record { settled = settled_worker a.history leaving is_worker; renewed = is_worker.renewed; reach = refl }));
          desks = desks_now;
          reach = all_set (λ w. w.reach ≤ length new) a.workers p.place v (all_as _ _ (λ w l. omega (arith, l, taken.as_many)) a.workers h.reach) (omega arith);
          workers_apart = apart_set a.workers p.place v may.own.enrolled.within refl h.workers_apart;
          clients_apart = apart_as a.desks new same_ids h.clients_apart;
          granted = all_as _ _ (λ e. has_as a.desks new same_ids (option_map (λ g. g.client) (grant_in e.reply))) a.history h.granted;
          queued = all_as _ _ (λ e. has_as a.desks new same_ids (option_map (λ s. s.0) (accepted e))) a.history h.queued;
          seated = all_as _ _ (λ e is. seated_set e.worker.0 a.workers p.place v refl ∙ is) a.history h.seated;
          tokens_fit = all_set (λ w. IsOpen w → AreTokensFit a.first (length a.history) w.books) a.workers p.place v h.tokens_fit (λ still. absurd (omega (arith, still)));
          cost_fits = h.cost_fits;
          within = h.within;
          few = h.few;
          limit = h.limit;
          few_workers = omega (arith, h.few_workers, length-set a.workers p.place v);
        }

pub names_kept : {S : Type 0} (new old : List (ClientDesk S)) → map id_of (map client_side new) ≡ map id_of (map client_side old) → map (λ d. d.client) new ≡ map (λ d. d.client) old
names_kept new old same = names_by_sides new ∙ same ∙ sym (names_by_sides old)
