-- A queue's book that is made is consistent, and what opens it worker by worker.
use Rattle.std.proofs.Common.{◌≡◌, ℕ, zero, suc, ◌+◌, ◌*◌, ◌<◌, ◌≤◌, ◌^◌, ◌||◌, Bool, true, false, true≢false, List, [], ◌∷◌, ◌++◌, length, map, take, drop, get_or, refl, sym, ap, ◌∙◌, subst, arith, inl, ◌⊎◌}
use Rattle.std.specs.Prelude.{◌==◌, nat_lt, slice_index_or}
use Rattle.std.specs.List.{AllByRecursion, list_any}
use Rattle.std.proofs.lemmas.Bool.{lt-ltb}
use Rattle.std.proofs.lemmas.List.{get_or-map, length-map, length-take-le, map-append, take_more, take-append-drop}
use Rattle.indexmap.specs.IndexSet.{insert_key}
use Rattle.dmc_types.specs.Limits.{max_open_tills}
use Rattle.dmc_types.specs.Values.{Setting}
use Rattle.dmc_types.specs.declared.ids.ClientId.{ClientId}
use Rattle.dmc_types.specs.declared.ids.WorkerId.{WorkerId}
use Rattle.dmc_tag.specs.Tag.{Tagging}
use Rattle.dmc_tag.specs.State.{State, opening}
use Rattle.dmc_tag.specs.declared.event.Event.{Event}
use Rattle.dmc_lemmas.proofs.Lists.{all_append, all_at, all_mapped}
use Rattle.dmc_ledger.specs.Accounts.{Account, new_book}
use Rattle.dmc_ledger.specs.Bundles.{ClientSide, PhaseAccounts, client_side, new_client_side}
use Rattle.dmc_ledger.specs.declared.desk.ClientDesk.{ClientDesk}
use Rattle.dmc_book.specs.BookState.{PassState, WorkerSide, no_desk}
use Rattle.dmc_book.specs.Counts.{one_if}
use Rattle.dmc_book.specs.Consistent.{AreConsistent, AreTokensFit, HasLeft, IsCounted, IsReplayed, IsWorker, IsDesk, AreDesks, AreWorkersApart, AreClientsApart, reaching}
use Rattle.dmc_book.specs.Joining.{id_of}
use Rattle.dmc_book.specs.Moves.{IsOpen}
use Rattle.dmc_book.specs.Opening.{AreApart, AreNamedOnce, IsNewDesk, desk_with_tills, phase_with_tills, with_tills, new_unit, new_worker, new_workers, new_pass, new_passes, new_accounts_state}
use Rattle.dmc_book.specs.PerCount.{books_per_worker}
use Rattle.dmc_book.specs.internal.Opening.{HaveRoom}
use Rattle.std.proofs.lemmas.Bool.{or_parts}

-- ---- no number is named twice

either : (a b : Bool) → a ≡ false → (b ≡ true → ⊥) → (a || b) ≡ true → ⊥
either true b e rest h = true≢false e
either false b e rest h = rest h

module _ {X : Type 0} (number : X → ℕ) where
  abbrev Has : X → List X → Type 0
  Has x xs = list_any (λ y. number x == number y) xs ≡ true

  abbrev Lacks : X → List X → Type 0
  Lacks x xs = list_any (λ y. number x == number y) xs ≡ false

  pub apart_more : (xs : List X) (x : X) → AreApart number xs → Lacks x xs → AreApart number (xs ++ x ∷ [])
  apart_more [] x h none = (tt, tt)
  apart_more (y ∷ ys) x h none =
      let two = or_parts (number x == number y) _ none in
      (all_append (λ o. (number o == number y) ≡ false) ys (x ∷ []) h.0 (two.0, tt), apart_more ys x h.1 two.1)

  pub apart_twice : (xs ys : List X) (x : X) → AreApart number (xs ++ x ∷ ys) → Has x xs → ⊥
  apart_twice [] ys x h any = true≢false (sym any)
  apart_twice (z ∷ xs) ys x h any = either (number x == number z) (list_any (λ y. number x == number y) xs) (all_at (λ o. (number o == number z) ≡ false) xs x ys h.0) (apart_twice xs ys x h.1) any

-- the names of desks are asked as the desks are
pub named_as : {S : Type 0} (id : ClientId) (ds : List (ClientDesk S)) → list_any (λ (k : ClientId). id.0 == k.0) (map (λ d. d.client) ds) ≡ list_any (λ (d : ClientSide). id.0 == d.client) (map client_side ds)
named_as id [] = refl
named_as id (d ∷ ds) = ap (λ b. (id.0 == d.client.0) || b) (named_as id ds)

-- ---- names, one after the other

abbrev client_of : ClientSide → ℕ
client_of d = d.client

abbrev number_of : WorkerId → ℕ
number_of w = w.0

pub seam : {X : Type 0} (xs ys : List X) (x : X) → (xs ++ x ∷ []) ++ ys ≡ xs ++ x ∷ ys
seam [] ys x = refl
seam (z ∷ xs) ys x = ap (λ zs. z ∷ zs) (seam xs ys x)

pub taken : {X : Type 0} (xs : List X) (i : ℕ) (x : X) → i < length xs → x ≡ get_or xs i x → take (i + 1) xs ≡ take i xs ++ x ∷ []
taken xs i x w is = take_more xs i x w ∙ ap (λ y. take i xs ++ y ∷ []) (sym is)

pub split : {X : Type 0} (xs : List X) (i : ℕ) (x : X) → i < length xs → x ≡ get_or xs i x → xs ≡ take i xs ++ x ∷ drop (i + 1) xs
split xs i x w is = sym (take-append-drop (i + 1) xs) ∙ ap (λ ys. ys ++ drop (i + 1) xs) (taken xs i x w is) ∙ seam (take i xs) (drop (i + 1) xs) x

module _ {S : Type 0} (ds : List (ClientDesk S)) (i : ℕ) (x : ClientDesk S) (within : i < length ds) (is : x ≡ get_or ds i x) (keys : List ClientId) (named : keys ≡ map (λ d. d.client) (take i ds)) where
  asked : list_any (λ (k : ClientId). x.client.0 == k.0) keys ≡ list_any (λ (d : ClientSide). x.client.0 == d.client) (map client_side (take i ds))
  asked = ap (list_any (λ (k : ClientId). x.client.0 == k.0)) named ∙ named_as x.client (take i ds)

  pub client_more : (new : List ClientId) → AreApart client_of (map client_side (take i ds)) → list_any (λ (k : ClientId). x.client.0 == k.0) keys ≡ false → new ≡ insert_key (λ (a b : ClientId). a.0 == b.0) keys x.client → (new ≡ map (λ d. d.client) (take (i + 1) ds)) × AreApart client_of (map client_side (take (i + 1) ds))
  client_more new apart none added =
      let fresh : insert_key (λ (a b : ClientId). a.0 == b.0) keys x.client ≡ keys ++ x.client ∷ [] = rw none refl in
      let next = taken ds i x within is in (
        added ∙ fresh ∙ ap (λ ks. ks ++ x.client ∷ []) named ∙ sym (ap (map (λ d. d.client)) next ∙ map-append (λ d. d.client) (take i ds) (x ∷ [])),
        subst (AreApart client_of) (sym (ap (map client_side) next ∙ map-append client_side (take i ds) (x ∷ []))) (apart_more client_of (map client_side (take i ds)) (client_side x) apart (sym asked ∙ none)),
      )

  pub client_twice : list_any (λ (k : ClientId). x.client.0 == k.0) keys ≡ true → AreApart client_of (map client_side ds) → ⊥
  client_twice some apart =
      let halves : map client_side ds ≡ map client_side (take i ds) ++ client_side x ∷ map client_side (drop (i + 1) ds) = ap (map client_side) (split ds i x within is) ∙ map-append client_side (take i ds) (x ∷ drop (i + 1) ds) in
      apart_twice client_of (map client_side (take i ds)) (map client_side (drop (i + 1) ds)) (client_side x) (subst (AreApart client_of) halves apart) (sym asked ∙ some)

module _ (ws : List WorkerId) (i : ℕ) (x : WorkerId) (within : i < length ws) (is : x ≡ get_or ws i x) (keys : List WorkerId) (named : keys ≡ take i ws) where
  pub worker_more : (new : List WorkerId) → AreApart number_of (take i ws) → list_any (λ (k : WorkerId). x.0 == k.0) keys ≡ false → new ≡ insert_key (λ (a b : WorkerId). a.0 == b.0) keys x → (new ≡ take (i + 1) ws) × AreApart number_of (take (i + 1) ws)
  worker_more new apart none added =
      let fresh : insert_key (λ (a b : WorkerId). a.0 == b.0) keys x ≡ keys ++ x ∷ [] = rw none refl in
      let next = taken ws i x within is in (
        added ∙ fresh ∙ ap (λ ks. ks ++ x ∷ []) named ∙ sym next,
        subst (AreApart number_of) (sym next) (apart_more number_of (take i ws) x apart (ap (list_any (λ (k : WorkerId). x.0 == k.0)) (sym named) ∙ none)),
      )

  pub worker_twice : list_any (λ (k : WorkerId). x.0 == k.0) keys ≡ true → AreApart number_of ws → ⊥
  worker_twice some apart = apart_twice number_of (take i ws) (drop (i + 1) ws) x (subst (AreApart number_of) (split ws i x within is) apart) (ap (list_any (λ (k : WorkerId). x.0 == k.0)) (sym named) ∙ some)

-- ---- the parts of a new book

module _ {T : Type 0} where
  new_counted : (adds : Event T → ℕ) (n : ℕ) → IsCounted adds [] 1 (new_book n)
  new_counted adds n = record { total = refl; gathered = refl; open_tills = refl }

  opened_desk : (client server n k : ℕ) → IsDesk {T = T} [] server k (desk_with_tills k (new_client_side client server n))
  opened_desk client server n k = record {
    its_server = refl;
    stamps = refl;
    delta = refl;
    rho = refl;
    reservation = record { grants = record { total = refl; gathered = refl; open_tills = refl }; cost = record { total = refl; gathered = refl; open_tills = refl } };
    priority = record { grants = record { total = refl; gathered = refl; open_tills = refl }; cost = record { total = refl; gathered = refl; open_tills = refl } };
  }

  desk_counted : (server k : ℕ) (d : ClientSide) → IsNewDesk server d → IsDesk {T = T} [] server k (desk_with_tills k d)
  desk_counted server k d h = subst (λ (x : ClientSide). IsDesk {T = T} [] server k (desk_with_tills k x)) (sym h.1) (opened_desk d.client server h.0 k)

workers_counted : (T : Type 0) (r n : ℕ) (ws : List WorkerId) → AllByRecursion (λ w. IsWorker {T = T} [] w ⊎ HasLeft {T = T} [] w) (new_workers r n ws)
workers_counted T r n [] = tt
workers_counted T r n (w ∷ ws) = (
  inl (record { renewed = omega arith; books = (new_counted _ _, new_counted _ _, new_counted _ _, new_counted _ _, new_counted _ _, new_counted _ _) }),
  workers_counted T r (n + books_per_worker) ws,
)

others_apart : (r n : ℕ) (w : WorkerId) (ws : List WorkerId) → AllByRecursion (λ (o : WorkerId). (o.0 == w.0) ≡ false) ws → AllByRecursion (λ (o : WorkerSide). (o.worker == w.0) ≡ false) (new_workers r n ws)
others_apart r n w [] h = tt
others_apart r n w (v ∷ ws) h = (h.0, others_apart r (n + books_per_worker) w ws h.1)

opened_workers_apart : (r n : ℕ) (ws : List WorkerId) → AreApart (λ (w : WorkerId). w.0) ws → AreWorkersApart (new_workers r n ws)
opened_workers_apart r n [] h = tt
opened_workers_apart r n (w ∷ ws) h = (others_apart r (n + books_per_worker) w ws h.0, opened_workers_apart r (n + books_per_worker) ws h.1)

opened_clients_apart : (k : ℕ) (ds : List ClientSide) → AreApart (λ (d : ClientSide). d.client) ds → AreClientsApart (map (desk_with_tills k) ds)
opened_clients_apart k [] h = tt
opened_clients_apart k (d ∷ ds) h = (all_mapped _ _ (desk_with_tills k) (λ o a. a) ds h.0, opened_clients_apart k ds h.1)

as_many_workers : (r n : ℕ) (ws : List WorkerId) → length (new_workers r n ws) ≡ length ws
as_many_workers r n [] = refl
as_many_workers r n (w ∷ ws) = ap suc (as_many_workers r (n + books_per_worker) ws)

-- each pass has tills of each desk
all_reaching : (k r n : ℕ) (ws : List WorkerId) → k < r → reaching k (new_workers r n ws) ≡ length ws
all_reaching k r n [] below = refl
all_reaching k r n (w ∷ ws) below =
    let here : one_if (nat_lt k r) ≡ 1 = ap one_if (lt-ltb k r below) in
    let rest = all_reaching k r (n + books_per_worker) ws below in
    omega (arith, here, rest)

all_in_reach : (r n : ℕ) (ws : List WorkerId) → AllByRecursion (λ w. w.reach ≤ r) (new_workers r n ws)
all_in_reach r n [] = tt
all_in_reach r n (w ∷ ws) = (omega arith, all_in_reach r (n + books_per_worker) ws)

tokens_low : (r n : ℕ) (ws : List WorkerId) → AllByRecursion (λ w. IsOpen w → AreTokensFit 0 0 w.books) (new_workers r n ws)
tokens_low r n [] = tt
tokens_low r n (w ∷ ws) = (λ still. record { tokens = omega arith; granted = omega arith }, tokens_low r (n + books_per_worker) ws)

new_desk_at : (server : ℕ) (ds : List ClientSide) (k : ℕ) → AllByRecursion (IsNewDesk server) ds → k < length ds → IsNewDesk server (slice_index_or ds k no_desk)
new_desk_at server [] k new l = absurd (omega (arith, l))
new_desk_at server (d ∷ ds) zero new l = new.0
new_desk_at server (d ∷ ds) (suc k) new l = new_desk_at server ds k new.1 (omega (arith, l))

module _ {T : Type 0} where
  -- accounts of no worker, no desk and no event
  pub consistent_empty : (server number : ℕ) → AreConsistent {T = T} (record { server = server; number = number; history = []; first = 0; most = 0; room = 0; workers = []; desks = [] })
  consistent_empty server number = record {
    workers = tt;
    desks = λ k l. absurd (omega (arith, l));
    reach = tt;
    workers_apart = tt;
    clients_apart = tt;
    granted = tt;
    queued = tt;
    seated = tt;
    tokens_fit = tt;
    cost_fits = omega arith;
    within = omega arith;
    few = omega arith;
    limit = omega arith;
    few_workers = omega arith;
  }

  opened_desks : (server n : ℕ) (ws : List WorkerId) (ds : List ClientSide) → AllByRecursion (IsNewDesk server) ds → AreDesks {T = T} [] server (new_workers (length ds) n ws) (map (desk_with_tills (length ws)) ds)
  opened_desks server n ws ds new k l =
      let within : k < length ds = omega (arith, l, length-map ds (desk_with_tills (length ws))) in
      rw (all_reaching k (length ds) n ws within, get_or-map (desk_with_tills (length ws)) ds k no_desk no_desk within)
      (desk_counted server (length ws) (slice_index_or ds k no_desk) (new_desk_at server ds k new within))

  pub consistent_new : (server most n : ℕ) (ws : List WorkerId) (ds : List ClientSide) → AllByRecursion (IsNewDesk server) ds → AreNamedOnce ws ds → most ≤ 2 ^ 30 → length ws ≤ 4294967294 → AreConsistent {T = T} (new_accounts_state server most n ws ds)
  consistent_new server most n ws ds new once limit few = record {
    workers = workers_counted T (length ds) n ws;
    desks = opened_desks server n ws ds new;
    reach = (let as_many = length-map ds (desk_with_tills (length ws)) in subst (λ (r : ℕ). AllByRecursion (λ w. w.reach ≤ r) (new_workers (length ds) n ws)) (sym as_many) (all_in_reach (length ds) n ws));
    workers_apart = opened_workers_apart (length ds) n ws once.workers_once;
    clients_apart = opened_clients_apart (length ws) ds once.clients_once;
    granted = tt;
    queued = tt;
    seated = tt;
    tokens_fit = tokens_low (length ds) n ws;
    cost_fits = omega arith;
    within = omega arith;
    few = omega arith;
    limit = omega (arith, limit);
    few_workers = (let as_many = as_many_workers (length ds) n ws in omega (arith, few, as_many));
  }

-- the queue of an empty history
pub replayed_new : {T : Type 0} (ops : Tagging T) (q : State T) (config : Setting) → q ≡ opening ops config → IsReplayed ops q config []
replayed_new ops q config is = record { state = is; replaying = tt }

-- ---- one worker more

pub workers_more : (r n : ℕ) (ws : List WorkerId) (w : WorkerId) → new_workers r n (ws ++ w ∷ []) ≡ new_workers r n ws ++ new_worker r (n + books_per_worker * length ws) w ∷ []
workers_more r n [] w = let e : n ≡ n + books_per_worker * 0 = omega arith in ap (λ k. new_worker r k w ∷ []) e
workers_more r n (v ∷ ws) w =
    let e : (n + books_per_worker) + books_per_worker * length ws ≡ n + books_per_worker * suc (length ws) = omega arith in
    ap (λ xs. new_worker r n v ∷ xs) (workers_more r (n + books_per_worker) ws w ∙ ap (λ k. new_workers r (n + books_per_worker) ws ++ new_worker r k w ∷ []) e)

module _ (clients : List ClientId) (ds : List ClientSide) where
  pub passes_more : (place n : ℕ) (ws : List WorkerId) (w : WorkerId) → new_passes place n clients ds (ws ++ w ∷ []) ≡ new_passes place n clients ds ws ++ new_pass (place + length ws) (n + books_per_worker * length ws) clients ds w ∷ []
  passes_more place n [] w =
      let e : n ≡ n + books_per_worker * 0 = omega arith in
      let p : place ≡ place + 0 = omega arith in
      ap (λ k. new_pass place k clients ds w ∷ []) e ∙ ap (λ k. new_pass k (n + books_per_worker * 0) clients ds w ∷ []) p
  passes_more place n (v ∷ ws) w =
      let e : (n + books_per_worker) + books_per_worker * length ws ≡ n + books_per_worker * suc (length ws) = omega arith in
      let p : (place + 1) + length ws ≡ place + suc (length ws) = omega arith in
      let first = new_passes (place + 1) (n + books_per_worker) clients ds ws in
      ap (λ xs. new_pass place n clients ds v ∷ xs)
      (passes_more (place + 1) (n + books_per_worker) ws w
      ∙ ap (λ k. first ++ new_pass ((place + 1) + length ws) k clients ds w ∷ []) e
      ∙ ap (λ k. first ++ new_pass k (n + books_per_worker * suc (length ws)) clients ds w ∷ []) p)

-- the next in their order, of which the first i are there
module _ (ws : List WorkerId) (i : ℕ) (w : WorkerId) (within : i < length ws) (is : w ≡ get_or ws i w) (n : ℕ) where
  so_many : length (take i ws) ≡ i
  so_many = length-take-le i ws (omega (arith, within))

  pub workers_next : (r : ℕ) (old : List WorkerSide) (s : WorkerSide) → old ≡ new_workers r n (take i ws) → s ≡ new_worker r (n + books_per_worker * i) w → old ++ s ∷ [] ≡ new_workers r n (take (i + 1) ws)
  workers_next r old s so_far this =
      ap (λ xs. xs ++ s ∷ []) so_far
      ∙ ap (λ x. new_workers r n (take i ws) ++ x ∷ []) (this ∙ ap (λ k. new_worker r (n + books_per_worker * k) w) (sym so_many))
      ∙ sym (workers_more r n (take i ws) w)
      ∙ ap (new_workers r n) (sym (taken ws i w within is))

  pub passes_next : (clients : List ClientId) (ds : List ClientSide) (old : List PassState) (s : PassState) → old ≡ new_passes 0 n clients ds (take i ws) → s ≡ new_pass i (n + books_per_worker * i) clients ds w → old ++ s ∷ [] ≡ new_passes 0 n clients ds (take (i + 1) ws)
  passes_next clients ds old s so_far this =
      let k = length (take i ws) in
      let zero_more : k ≡ 0 + k = omega arith in
      ap (λ xs. xs ++ s ∷ []) so_far
      ∙ ap (λ x. new_passes 0 n clients ds (take i ws) ++ x ∷ []) (this ∙ ap (λ m. new_pass m (n + books_per_worker * m) clients ds w) (sym so_many) ∙ ap (λ m. new_pass m (n + books_per_worker * k) clients ds w) zero_more)
      ∙ sym (passes_more clients ds 0 n (take i ws) w)
      ∙ ap (new_passes 0 n clients ds) (sym (taken ws i w within is))

tills_more : (k : ℕ) (a : Account) → with_tills 1 (with_tills k a) ≡ with_tills (k + 1) a
tills_more k a = let e : (a.open_tills + k) + 1 ≡ a.open_tills + (k + 1) = omega arith in ap (λ (n : ℕ). record a { open_tills = n }) e

phase_more : (k : ℕ) (books : PhaseAccounts) → phase_with_tills 1 (phase_with_tills k books) ≡ phase_with_tills (k + 1) books
phase_more k books = rw (tills_more k books.grants, tills_more k books.cost) refl

desk_more : (k : ℕ) (d : ClientSide) → desk_with_tills 1 (desk_with_tills k d) ≡ desk_with_tills (k + 1) d
desk_more k d = rw (phase_more k d.books.reservation, phase_more k d.books.priority) refl

pub desks_more : (k : ℕ) (ds : List ClientSide) → map (desk_with_tills 1) (map (desk_with_tills k) ds) ≡ map (desk_with_tills (k + 1)) ds
desks_more k [] = refl
desks_more k (d ∷ ds) = ap (λ x. x ∷ map (desk_with_tills 1) (map (desk_with_tills k) ds)) (desk_more k d) ∙ ap (λ xs. desk_with_tills (k + 1) d ∷ xs) (desks_more k ds)

phase_none : (books : PhaseAccounts) → phase_with_tills 0 books ≡ books
phase_none books =
    let none : (a : Account) → with_tills 0 a ≡ a = λ a. (let e : a.open_tills + 0 ≡ a.open_tills = omega arith in ap (λ (n : ℕ). record a { open_tills = n }) e) in
    rw (none books.grants, none books.cost) refl

pub desks_none : (ds : List ClientSide) → map (desk_with_tills 0) ds ≡ ds
desks_none [] = refl
desks_none (d ∷ ds) =
    ap (λ xs. desk_with_tills 0 d ∷ xs) (desks_none ds) ∙ ap (λ x. x ∷ ds) (rw (phase_none d.books.reservation, phase_none d.books.priority) refl)

-- the tills of a desk are of its books, however many are open
pub units_stay : (k : ℕ) (ds : List ClientSide) → map new_unit (map (desk_with_tills k) ds) ≡ map new_unit ds
units_stay k [] = refl
units_stay k (d ∷ ds) = ap (λ xs. new_unit d ∷ xs) (units_stay k ds)

-- a pass takes nothing of how many are open
pub pass_as : (place n k : ℕ) (clients names : List ClientId) (sides ds : List ClientSide) (w : WorkerId) → clients ≡ names → sides ≡ map (desk_with_tills k) ds → new_pass place n clients sides w ≡ new_pass place n names ds w
pass_as place n k clients names sides ds w named opened = rw (named, opened, units_stay k ds) refl

pub room_for_one : (server k : ℕ) (ds : List ClientSide) → AllByRecursion (IsNewDesk server) ds → k < 4294967294 → (i : ℕ) → i < length ds → HaveRoom (get_or (map (desk_with_tills k) ds) i no_desk).books
room_for_one server k [] new few i within = absurd (omega (arith, within))
room_for_one server k (d ∷ ds) new few zero within =
    let one : 1 + k < max_open_tills = omega (arith, few) in
    subst (λ (x : ClientSide). HaveRoom (desk_with_tills k x).books) (sym new.0.1) (record { reservation = record { grants = one; cost = one }; priority = record { grants = one; cost = one } })
room_for_one server k (d ∷ ds) new few (suc i) within = room_for_one server k ds new.1 few i (omega (arith, within))

-- ---- what a pop takes

pub all_popped : {X : Type 0} (P : X → Type 0) (xs : List X) (x : X) → AllByRecursion P (xs ++ x ∷ []) → AllByRecursion P xs × P x
all_popped P [] x h = (tt, h.0)
all_popped P (y ∷ ys) x h = (let rest = all_popped P ys x h.1 in ((h.0, rest.0), rest.1))

-- ---- the names of desks

ids_stay : (k : ℕ) (ds : List ClientSide) → map id_of (map (desk_with_tills k) ds) ≡ map id_of ds
ids_stay k [] = refl
ids_stay k (d ∷ ds) = ap (λ ks. id_of d ∷ ks) (ids_stay k ds)

module _ {S : Type 0} where
  pub names_by_sides : (ds : List (ClientDesk S)) → map (λ d. d.client) ds ≡ map id_of (map client_side ds)
  names_by_sides [] = refl
  names_by_sides (d ∷ ds) = ap (λ ks. d.client ∷ ks) (names_by_sides ds)

  pub names_stay : (k : ℕ) (new old : List (ClientDesk S)) → map client_side new ≡ map (desk_with_tills k) (map client_side old) → map (λ d. d.client) new ≡ map (λ d. d.client) old
  names_stay k new old h = names_by_sides new ∙ ap (map id_of) h ∙ ids_stay k (map client_side old) ∙ sym (names_by_sides old)

  pub as_many_desks : (k : ℕ) (new old : List (ClientDesk S)) → map client_side new ≡ map (desk_with_tills k) (map client_side old) → length new ≡ length old
  as_many_desks k new old h = sym (length-map new client_side) ∙ ap length h ∙ length-map (map client_side old) (desk_with_tills k) ∙ length-map old client_side
