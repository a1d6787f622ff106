-- Accounts where one pass has tills of each desk are consistent.
use Rattle.std.proofs.Common.{◌≡◌, ℕ, zero, suc, ◌+◌, ◌<◌, ◌≤◌, Bool, false, List, [], ◌∷◌, map, length, refl, sym, ap, ◌∙◌, Option, Some, None, inl, inr, ◌⊎◌, arith, subst}
use Rattle.std.specs.Prelude.{◌==◌, nat_lt, is_some, option_map, slice_index_or}
use Rattle.std.specs.List.{AllByRecursion, position}
use Rattle.std.proofs.lemmas.Bool.{cases_lt, le-ltb, lt-ltb}
use Rattle.std.proofs.lemmas.List.{get_or-map, length-map, length-set}
use Rattle.dmc_types.specs.Limits.{max_open_tills}
use Rattle.dmc_types.specs.declared.ids.ClientId.{ClientId}
use Rattle.dmc_types.specs.declared.config.PhaseType.{PhaseType}
use Rattle.dmc_tag.specs.declared.event.Event.{Event}
use Rattle.dmc_lemmas.proofs.Lists.{all_as, all_mapped, position_map}
use Rattle.dmc_ledger.specs.Bundles.{ClientSide, PhaseAccounts, client_side}
use Rattle.dmc_ledger.specs.declared.desk.ClientDesk.{ClientDesk}
use Rattle.dmc_book.specs.BookState.{AccountsState, WorkerSide, no_desk, no_worker}
use Rattle.dmc_book.specs.Consistent.{AreClientsApart, AreConsistent, AreDesks, ArePhaseCounted, AreTokensFit, HasDesk, HasLeft, IsDesk, IsWorker, reaching}
use Rattle.dmc_book.specs.Counts.{accepted, grant_in, one_if}
use Rattle.dmc_book.specs.Joining.{desks_from, id_of, reach_at, with_reach}
use Rattle.dmc_book.specs.internal.Joining.{accounts_extended}
use Rattle.dmc_book.specs.Moves.{IsOpen}
use Rattle.dmc_book.specs.Opening.{AreApart, desk_with_tills, phase_with_tills}
use Rattle.dmc_book.specs.internal.Opening.{HasPhaseRoom, HaveRoom}
use Rattle.dmc_book.proofs.Counting.{one_at_most}
use Rattle.dmc_book.proofs.OpeningLemmas.{names_by_sides}
use Rattle.dmc_book.proofs.RenewingLemmas.{all_set, all_there, apart_set, seated_set, worker_there}

-- ---- desks, of which those from a place on have a till more

pub as_many_from : (n : ℕ) (ds : List ClientSide) → length (desks_from n ds) ≡ length ds
as_many_from zero ds = length-map ds (desk_with_tills 1)
as_many_from (suc n) [] = refl
as_many_from (suc n) (d ∷ ds) = ap suc (as_many_from n ds)

desk_before : (n : ℕ) (ds : List ClientSide) (k : ℕ) → k < n → slice_index_or (desks_from n ds) k no_desk ≡ slice_index_or ds k no_desk
desk_before zero ds k l = absurd (omega (arith, l))
desk_before (suc n) [] k l = refl
desk_before (suc n) (d ∷ ds) zero l = refl
desk_before (suc n) (d ∷ ds) (suc k) l = desk_before n ds k (omega (arith, l))

desk_behind : (n : ℕ) (ds : List ClientSide) (k : ℕ) → n ≤ k → k < length ds → slice_index_or (desks_from n ds) k no_desk ≡ desk_with_tills 1 (slice_index_or ds k no_desk)
desk_behind zero ds k past within = get_or-map (desk_with_tills 1) ds k no_desk no_desk within
desk_behind (suc n) [] k past within = absurd (omega (arith, within))
desk_behind (suc n) (d ∷ ds) zero past within = absurd (omega (arith, past))
desk_behind (suc n) (d ∷ ds) (suc k) past within = desk_behind n ds k (omega (arith, past)) (omega (arith, within))

ids_from : (n : ℕ) (ds : List ClientSide) → map id_of (desks_from n ds) ≡ map id_of ds
ids_from zero [] = refl
ids_from zero (d ∷ ds) = ap (λ ks. id_of d ∷ ks) (ids_from zero ds)
ids_from (suc n) [] = refl
ids_from (suc n) (d ∷ ds) = ap (λ ks. id_of d ∷ ks) (ids_from n ds)

pub names_from : {S : Type 0} (n : ℕ) (new old : List (ClientDesk S)) → map client_side new ≡ desks_from n (map client_side old) → map (λ d. d.client) new ≡ map (λ d. d.client) old
names_from n new old h = names_by_sides new ∙ ap (map id_of) h ∙ ids_from n (map client_side old) ∙ sym (names_by_sides old)

-- desks of the same clients are apart, and the same clients have one
abbrev number : ClientId → ℕ
number id = id.0

ids_apart : (ds : List ClientSide) → AreClientsApart ds → AreApart number (map id_of ds)
ids_apart [] h = tt
ids_apart (d ∷ ds) h = (all_mapped _ _ id_of (λ o is. is) ds h.0, ids_apart ds h.1)

all_named : (c : ℕ) (ds : List ClientSide) → AllByRecursion (λ (id : ClientId). (id.0 == c) ≡ false) (map id_of ds) → AllByRecursion (λ (d : ClientSide). (d.client == c) ≡ false) ds
all_named c [] h = tt
all_named c (d ∷ ds) h = (h.0, all_named c ds h.1)

apart_by_ids : (ds : List ClientSide) → AreApart number (map id_of ds) → AreClientsApart ds
apart_by_ids [] h = tt
apart_by_ids (d ∷ ds) h = (all_named d.client ds h.0, apart_by_ids ds h.1)

pub apart_as : (ds es : List ClientSide) → map id_of es ≡ map id_of ds → AreClientsApart ds → AreClientsApart es
apart_as ds es same h = apart_by_ids es (subst (AreApart number) (sym same) (ids_apart ds h))

pub has_as : (ds es : List ClientSide) → map id_of es ≡ map id_of ds → (o : Option ClientId) → HasDesk ds o → HasDesk es o
has_as ds es same None has = tt
has_as ds es same (Some client) has =
    let is_its : ClientId → Bool = λ id. client.0 == id.0 in
    ap is_some (sym (position_map id_of is_its es) ∙ ap (position is_its) same ∙ position_map id_of is_its ds) ∙ has

pub apart_from : (n : ℕ) (ds : List ClientSide) → AreClientsApart ds → AreClientsApart (desks_from n ds)
apart_from n ds h = apart_as ds (desks_from n ds) (ids_from n ds) h

pub has_from : (n : ℕ) (ds : List ClientSide) (o : Option ClientId) → HasDesk ds o → HasDesk (desks_from n ds) o
has_from n ds o has = has_as ds (desks_from n ds) (ids_from n ds) o has

-- two ways to say that no two desks are of one client
pub apart_by_number : (ds : List ClientSide) → AreClientsApart ds → AreApart (λ (d : ClientSide). d.client) ds
apart_by_number [] h = tt
apart_by_number (d ∷ ds) h = (h.0, apart_by_number ds h.1)

phase_opened : {T : Type 0} {client : ℕ} {phase : PhaseType} (es : List (Event T)) (passes : ℕ) (books : PhaseAccounts) → ArePhaseCounted client phase es (1 + passes) books → ArePhaseCounted client phase es (1 + (1 + passes)) (phase_with_tills 1 books)
phase_opened es passes books h = record {
  grants = record { total = h.grants.total; gathered = h.grants.gathered; open_tills = omega (arith, h.grants.open_tills) };
  cost = record { total = h.cost.total; gathered = h.cost.gathered; open_tills = omega (arith, h.cost.open_tills) };
}

-- a phase whose tills are few has room for one more
pub phase_room : {T : Type 0} {client : ℕ} {phase : PhaseType} (es : List (Event T)) (tills : ℕ) (books : PhaseAccounts) → ArePhaseCounted client phase es tills books → tills < max_open_tills → HasPhaseRoom books
phase_room es tills books h few = record { grants = omega (arith, few, h.grants.open_tills); cost = omega (arith, few, h.cost.open_tills) }

pub desk_opened : {T : Type 0} (es : List (Event T)) (server passes : ℕ) (d : ClientSide) → IsDesk es server passes d → IsDesk es server (1 + passes) (desk_with_tills 1 d)
desk_opened es server passes d h = record {
  its_server = h.its_server;
  stamps = h.stamps;
  delta = h.delta;
  rho = h.rho;
  reservation = phase_opened es passes d.books.reservation h.reservation;
  priority = phase_opened es passes d.books.priority h.priority;
}

-- ---- a worker that reaches each desk

module _ (k n : ℕ) (below : k < n) where
  reached_as_before : (ws : List WorkerSide) (i : ℕ) → k < reach_at i ws → reaching k (with_reach i n ws) ≡ reaching k ws
  reached_as_before [] i was = refl
  reached_as_before (w ∷ ws) zero was = ap (λ b. one_if b + reaching k ws) (lt-ltb k n below ∙ sym (lt-ltb k w.reach was))
  reached_as_before (w ∷ ws) (suc i) was = ap (λ m. one_if (nat_lt k w.reach) + m) (reached_as_before ws i was)

  reached_by_one_more : (ws : List WorkerSide) (i : ℕ) → i < length ws → reach_at i ws ≤ k → reaching k (with_reach i n ws) ≡ 1 + reaching k ws
  reached_by_one_more [] i within past = absurd (omega (arith, within))
  reached_by_one_more (w ∷ ws) zero within past =
      let now : one_if (nat_lt k n) ≡ 1 = ap one_if (lt-ltb k n below) in
      let was : one_if (nat_lt k w.reach) ≡ 0 = ap one_if (le-ltb k w.reach past) in
      omega (arith, now, was)
  reached_by_one_more (w ∷ ws) (suc i) within past = let rest = reached_by_one_more ws i (omega (arith, within)) past in omega (arith, rest)

-- no desk has more tills than there are workers, beside the held one
pub reached_at_most : (k : ℕ) (ws : List WorkerSide) → reaching k ws ≤ length ws
reached_at_most k [] = omega arith
reached_at_most k (w ∷ ws) =
    let here = one_at_most (nat_lt k w.reach) in
    let rest = reached_at_most k ws in
    omega (arith, here, rest)

reached_by_fewer : (k : ℕ) (ws : List WorkerSide) (i : ℕ) → i < length ws → reach_at i ws ≤ k → reaching k ws < length ws
reached_by_fewer k [] i within past = absurd (omega (arith, within))
reached_by_fewer k (w ∷ ws) zero within past =
    let was : one_if (nat_lt k w.reach) ≡ 0 = ap one_if (le-ltb k w.reach past) in
    let rest = reached_at_most k ws in
    omega (arith, was, rest)
reached_by_fewer k (w ∷ ws) (suc i) within past =
    let here = one_at_most (nat_lt k w.reach) in
    let rest = reached_by_fewer k ws i (omega (arith, within)) past in
    omega (arith, here, rest)

module _ {T : Type 0} (a : AccountsState T) (place : ℕ) (within : place < length a.workers) (h : AreConsistent a) where
  abbrev from : ℕ
  from = reach_at place a.workers

  pub room_behind : (k : ℕ) → from ≤ k → k < length a.desks → HaveRoom (slice_index_or a.desks k no_desk).books
  room_behind k past inside =
      let fewer = reached_by_fewer k a.workers place within past in
      let few = h.few_workers in
      let was = h.desks k inside in
      let within : 1 + reaching k a.workers < max_open_tills = omega (arith, fewer, few) in
      record { reservation = phase_room a.history (1 + reaching k a.workers) _ was.reservation within; priority = phase_room a.history (1 + reaching k a.workers) _ was.priority within }

  extended_desks : AreDesks a.history a.server (with_reach place (length a.desks) a.workers) (desks_from from a.desks)
  extended_desks k l = by_place (cases_lt k from) where
    inside : k < length a.desks
    inside = omega (arith, l, as_many_from from a.desks)

    by_place : (k < from) ⊎ (from ≤ k) → IsDesk a.history a.server (reaching k (with_reach place (length a.desks) a.workers)) (slice_index_or (desks_from from a.desks) k no_desk)
    by_place (inl less) = rw (reached_as_before k (length a.desks) inside a.workers place less, desk_before from a.desks k less) (h.desks k inside)
    by_place (inr past) =
        rw (reached_by_one_more k (length a.desks) inside a.workers place within past, desk_behind from a.desks k past inside)
        (desk_opened a.history a.server (reaching k a.workers) (slice_index_or a.desks k no_desk) (h.desks k inside))

  pub consistent_extended : IsOpen (slice_index_or a.workers place no_worker) → AreConsistent (accounts_extended place a)
  consistent_extended still =
      let w = slice_index_or a.workers place no_worker in
      let v : WorkerSide = record w { reach = length a.desks } in
      let counted = worker_there a place within still h in
      let many = as_many_from from a.desks in
      record {
        workers = all_set (λ x. IsWorker a.history x ⊎ HasLeft a.history x) a.workers place v h.workers (inl (record { renewed = counted.renewed; books = counted.books }));
        desks = extended_desks;
        reach = all_set (λ x. x.reach ≤ length (desks_from from a.desks)) a.workers place v (all_as _ _ (λ x l. omega (arith, l, many)) a.workers h.reach) (omega (arith, many));
        workers_apart = apart_set a.workers place v within refl h.workers_apart;
        clients_apart = apart_from from a.desks h.clients_apart;
        granted = all_as _ _ (λ e. has_from from a.desks (option_map (λ g. g.client) (grant_in e.reply))) a.history h.granted;
        queued = all_as _ _ (λ e. has_from from a.desks (option_map (λ s. s.0) (accepted e))) a.history h.queued;
        seated = all_as _ _ (λ e is. seated_set e.worker.0 a.workers place v refl ∙ is) a.history h.seated;
        tokens_fit = all_set (λ x. IsOpen x → AreTokensFit a.first (length a.history) x.books) a.workers place v h.tokens_fit (all_there (λ x. IsOpen x → AreTokensFit a.first (length a.history) x.books) a.workers place within h.tokens_fit);
        cost_fits = h.cost_fits;
        within = h.within;
        few = h.few;
        limit = h.limit;
        few_workers = omega (arith, h.few_workers, length-set a.workers place v);
      }

  -- a pass that has tills of each desk that its worker reaches has tills of no more desks than there are
  pub reach_within : from ≤ length a.desks
  reach_within = all_there (λ w. w.reach ≤ length a.desks) a.workers place within h.reach
