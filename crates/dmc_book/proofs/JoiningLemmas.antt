-- Accounts with a desk more are consistent.
use Rattle.std.proofs.Common.{◌≡◌, ℕ, suc, ◌+◌, ◌<◌, ◌≤◌, ◌&&◌, Bool, true, false, not, true≢false, cond, List, [], ◌∷◌, ◌++◌, map, length, length-append, refl, sym, ap, ◌∙◌, subst, Option, Some, None, inl, inr, ◌⊎◌, arith}
use Rattle.std.specs.Prelude.{◌==◌, ◌||◌, Result, Ok, Err, OnErr, OnOk, nat_lt, if◌then◌else◌, is_some, option_map, slice_index_or}
use Rattle.std.specs.List.{AllByRecursion, list_any, position, prefix_len}
use Rattle.std.proofs.lemmas.Bool.{cases_lt, eqb-true, le-ltb, lt-ltb, ltb-false, ltb-true}
use Rattle.std.proofs.lemmas.List.{get_or_append_left, map-append}
use Rattle.std.proofs.Math.Seq.{get_or-append_seam}
use Rattle.indexmap.specs.IndexSet.{insert_key}
use Rattle.dmc_types.specs.Values.{Params, Counts, no_counts, counts_of}
use Rattle.dmc_types.specs.declared.ids.ClientId.{ClientId}
use Rattle.dmc_types.specs.declared.config.PhaseType.{PhaseType}
use Rattle.dmc_types.specs.declared.config.PhaseType.TheVariants.{Reservation, Priority}
use Rattle.dmc_tag.specs.declared.event.Event.{Event}
use Rattle.dmc_lemmas.proofs.Lists.{all_as, all_next}
use Rattle.dmc_ledger.specs.Accounts.{Account}
use Rattle.dmc_ledger.specs.Bundles.{ClientSide, PhaseAccounts, client_side}
use Rattle.dmc_ledger.specs.declared.desk.ClientDesk.{ClientDesk}
use Rattle.dmc_shared.specs.Segmented.{Segmented}
use Rattle.dmc_book.specs.BookState.{AccountsState, WorkerSide, accounts_of, no_desk}
use Rattle.dmc_book.specs.Consistent.{AreClientsApart, AreConsistent, AreDesks, ArePhaseCounted, HasDesk, IsCounted, IsDesk, reaching}
use Rattle.dmc_book.specs.declared.counts.Grant.{Grant}
use Rattle.dmc_book.specs.Counts.{accepted, costs_added, costs_for, count, delta_added, grant_in, grants_added, is_phase, one_if, counts_for, rho_added, stamps_added, stamps_for, units_for}
use Rattle.dmc_book.specs.Joining.{IsPhaseUnissued, IsUnissued, IsUnused}
use Rattle.dmc_book.specs.internal.Joining.{accounts_admitted}
use Rattle.dmc_book.specs.Moves.{desk_place}
use Rattle.dmc_book.proofs.OpeningLemmas.{named_as}

-- ---- what is first, and whether there is one

module _ {X : Type 0} (p : X → Bool) where
  abbrev first : List X → ℕ
  first xs = prefix_len (λ x. not (p x)) xs

  found_below : (a b : ℕ) → is_some (cond (nat_lt a b) (Some a) None) ≡ nat_lt a b
  found_below a b = either (nat_lt a b) where
    either : (c : Bool) → is_some (cond c (Some a) None) ≡ c
    either true = refl
    either false = refl

  first_same : (xs ys : List X) → first xs < length xs → first (xs ++ ys) ≡ first xs
  first_same [] ys l = absurd (omega (arith, l))
  first_same (x ∷ xs) ys l = step (p x) (first_same xs ys) l where
    step : (b : Bool) → (first xs < length xs → first (xs ++ ys) ≡ first xs) → cond (not b) (1 + first xs) 0 < suc (length xs) → cond (not b) (1 + first (xs ++ ys)) 0 ≡ cond (not b) (1 + first xs) 0
    step true next l = refl
    step false next l = ap (λ n. 1 + n) (next (omega (arith, l)))

  pub found_among_more : (xs ys : List X) → is_some (position p xs) ≡ true → is_some (position p (xs ++ ys)) ≡ true
  found_among_more xs ys h =
      let below : first xs < length xs = ltb-true (first xs) (length xs) (sym (found_below (first xs) (length xs)) ∙ h) in
      let same = first_same xs ys below in
      let more : first (xs ++ ys) < length (xs ++ ys) = omega (arith, below, same, length-append xs ys) in
      found_below (first (xs ++ ys)) (length (xs ++ ys)) ∙ lt-ltb (first (xs ++ ys)) (length (xs ++ ys)) more

  none_passes : (xs : List X) → length xs ≤ first xs → AllByRecursion (λ x. p x ≡ false) xs
  none_passes [] l = tt
  none_passes (x ∷ xs) l = step (p x) refl (none_passes xs) l where
    step : (b : Bool) → p x ≡ b → (length xs ≤ first xs → AllByRecursion (λ y. p y ≡ false) xs) → suc (length xs) ≤ cond (not b) (1 + first xs) 0 → AllByRecursion (λ y. p y ≡ false) (x ∷ xs)
    step true e rest l = absurd (omega (arith, l))
    step false e rest l = (e, rest (omega (arith, l)))

  pub not_found : (xs : List X) → position p xs ≡ None → AllByRecursion (λ x. p x ≡ false) xs
  not_found xs h = none_passes xs (ltb-false (first xs) (length xs) (sym (found_below (first xs) (length xs)) ∙ ap is_some h))

-- ---- a client without a desk was granted nothing, and no request of it was queued

pub nothing_counted : {T : Type 0} (adds : Event T → ℕ) (es : List (Event T)) → AllByRecursion (λ e. adds e ≡ 0) es → count adds es ≡ 0
nothing_counted adds [] h = refl
nothing_counted adds (e ∷ es) h = let rest = nothing_counted adds es h.1 in omega (arith, rest, h.0)

module _ (ds : List ClientSide) (c : ℕ) (none : desk_place c ds ≡ None) where
  other : (n : ℕ) → is_some (desk_place n ds) ≡ true → (n == c) ≡ false
  other n has = by_case (n == c) refl where
    by_case : (b : Bool) → (n == c) ≡ b → b ≡ false
    by_case false e = refl
    by_case true e = absurd (true≢false (sym has ∙ ap (λ m. is_some (desk_place m ds)) (eqb-true n c e) ∙ ap is_some none))

  no_units : (phase : PhaseType) (o : Option Grant) → HasDesk ds (option_map (λ g. g.client) o) → units_for c phase o ≡ 0
  no_units phase None h = refl
  no_units phase (Some grant) h = ap (λ b. one_if (b && is_phase phase grant.phase)) (other grant.client.0 h)

  no_costs : (phase : PhaseType) (o : Option Grant) → HasDesk ds (option_map (λ g. g.client) o) → costs_for c phase o ≡ 0
  no_costs phase None h = refl
  no_costs phase (Some grant) h = ap (λ b. if b && is_phase phase grant.phase then grant.cost else 0) (other grant.client.0 h)

  no_stamps : (o : Option (ClientId × Params)) → HasDesk ds (option_map (λ s. s.0) o) → stamps_for c o ≡ 0
  no_stamps None h = refl
  no_stamps (Some stamp) h = ap one_if (other stamp.0.0 h)

  no_counts_for : (o : Option (ClientId × Params)) → HasDesk ds (option_map (λ s. s.0) o) → counts_for c o ≡ no_counts
  no_counts_for None h = refl
  no_counts_for (Some stamp) h = ap (λ b. if b then counts_of stamp.1 else no_counts) (other stamp.0.0 h)

module _ {T : Type 0} (adds : Event T → ℕ) (es : List (Event T)) where
  unissued : (book : Account) → IsUnissued book → count adds es ≡ 0 → IsCounted adds es 1 book
  unissued book h none = record { total = h.nothing ∙ sym none; gathered = omega (arith, h.nothing); open_tills = h.one_till }

module _ {T : Type 0} (a : AccountsState T) (h : AreConsistent a) (d : ClientSide) (unused : IsUnused a.server d) (none : desk_place d.client a.desks ≡ None) where
  none_granted : (added : Event T → ℕ) → ((e : Event T) → HasDesk a.desks (option_map (λ g. g.client) (grant_in e.reply)) → added e ≡ 0) → count added a.history ≡ 0
  none_granted added nothing = nothing_counted added a.history (all_as _ _ nothing a.history h.granted)

  unissued_phase : (phase : PhaseType) (books : PhaseAccounts) → IsPhaseUnissued books → ArePhaseCounted d.client phase a.history 1 books
  unissued_phase phase books is = record {
    grants = unissued (grants_added d.client phase) a.history books.grants is.grants (none_granted (grants_added d.client phase) (λ e. no_units a.desks d.client none phase (grant_in e.reply)));
    cost = unissued (costs_added d.client phase) a.history books.cost is.cost (none_granted (costs_added d.client phase) (λ e. no_costs a.desks d.client none phase (grant_in e.reply)));
  }

  none_queued : (added : Event T → ℕ) → ((e : Event T) → HasDesk a.desks (option_map (λ s. s.0) (accepted e)) → added e ≡ 0) → count added a.history ≡ 0
  none_queued added nothing = nothing_counted added a.history (all_as _ _ nothing a.history h.queued)

  last_desk : IsDesk a.history a.server 0 d
  last_desk = record {
    its_server = unused.its_server;
    stamps = unused.stamps ∙ sym (none_queued (stamps_added d.client) (λ e. no_stamps a.desks d.client none (accepted e)));
    delta = unused.delta ∙ sym (none_queued (delta_added d.client) (λ e has. ap (λ (p : Counts). p.delta) (no_counts_for a.desks d.client none (accepted e) has)));
    rho = unused.rho ∙ sym (none_queued (rho_added d.client) (λ e has. ap (λ (p : Counts). p.rho) (no_counts_for a.desks d.client none (accepted e) has)));
    reservation = unissued_phase Reservation d.books.reservation unused.reservation;
    priority = unissued_phase Priority d.books.priority unused.priority;
  }

  -- no pass has tills of it
  none_reaching : (n : ℕ) (ws : List WorkerSide) → AllByRecursion (λ w. w.reach ≤ n) ws → reaching n ws ≡ 0
  none_reaching n [] low = refl
  none_reaching n (w ∷ ws) low =
      let here : one_if (nat_lt n w.reach) ≡ 0 = ap one_if (le-ltb n w.reach low.0) in
      let rest = none_reaching n ws low.1 in
      omega (arith, here, rest)

  abbrev IsDeskAt : ℕ → Type 0
  IsDeskAt n = IsDesk a.history a.server (reaching n a.workers) (slice_index_or (a.desks ++ d ∷ []) n no_desk)

  desks_and_one : AreDesks a.history a.server a.workers (a.desks ++ d ∷ [])
  desks_and_one k l = by_place (cases_lt k (length a.desks)) where
    by_place : (k < length a.desks) ⊎ (length a.desks ≤ k) → IsDeskAt k
    by_place (inl less) = rw (get_or_append_left a.desks (d ∷ []) no_desk k less) (h.desks k less)
    by_place (inr past) =
        let is : length a.desks ≡ k = omega (arith, l, past, length-append a.desks (d ∷ [])) in
        subst IsDeskAt is (rw (get_or-append_seam a.desks d [] no_desk, none_reaching (length a.desks) a.workers h.reach) last_desk)

  apart_more : (ds : List ClientSide) → AreClientsApart ds → AllByRecursion (λ x. (d.client == x.client) ≡ false) ds → AreClientsApart (ds ++ d ∷ [])
  apart_more [] apart others = (tt, tt)
  apart_more (x ∷ ds) apart others = (all_next (λ o. (o.client == x.client) ≡ false) ds d apart.0 others.0, apart_more ds apart.1 others.1)

  still_has : (o : Option ClientId) → HasDesk a.desks o → HasDesk (a.desks ++ d ∷ []) o
  still_has None has = tt
  still_has (Some client) has = found_among_more (λ x. client.0 == x.client) a.desks (d ∷ []) has

  pub consistent_admitted : AreConsistent (accounts_admitted d a)
  consistent_admitted = record {
    workers = h.workers;
    desks = desks_and_one;
    reach = all_as _ _ (λ w l. omega (arith, l, length-append a.desks (d ∷ []))) a.workers h.reach;
    workers_apart = h.workers_apart;
    clients_apart = apart_more a.desks h.clients_apart (not_found (λ x. d.client == x.client) a.desks none);
    granted = all_as _ _ (λ e. still_has (option_map (λ g. g.client) (grant_in e.reply))) a.history h.granted;
    queued = all_as _ _ (λ e. still_has (option_map (λ s. s.0) (accepted e))) a.history h.queued;
    seated = h.seated;
    tokens_fit = h.tokens_fit;
    cost_fits = h.cost_fits;
    within = h.within;
    few = h.few;
    limit = h.limit;
    few_workers = h.few_workers;
  }

-- the desk is put behind the others, or nothing changes
module _ {T S : Type 0} (server : ℕ) (history : Segmented (Event T)) (ws : List WorkerSide) (old new : List (ClientDesk S)) (d : ClientDesk S) where
  abbrev With : List ClientSide → AccountsState T
  With ds = accounts_of server history ws ds

  sides : new ≡ old ++ d ∷ [] → map client_side new ≡ map client_side old ++ client_side d ∷ []
  sides added = ap (map client_side) added ∙ map-append client_side old (d ∷ [])

  pub consistent_either : {X E : Type 0} (r : Result X E) → OnOk r (new ≡ old ++ d ∷ []) → OnErr r (new ≡ old) → IsUnused server (client_side d) → desk_place d.client.0 (map client_side old) ≡ None
      → AreConsistent (With (map client_side old)) → AreConsistent (With (map client_side new))
  consistent_either (Ok x) added kept unused none h = subst (λ (ds : List ClientSide). AreConsistent (With ds)) (sym (sides added)) (consistent_admitted (With (map client_side old)) h (client_side d) unused none)
  consistent_either (Err e) added kept unused none h = subst (λ (ds : List (ClientDesk S)). AreConsistent (With (map client_side ds))) (sym kept) h

  pub admitted_view : {X E : Type 0} (a : AccountsState T) (r : Result X E) → With (map client_side old) ≡ a → OnOk r (new ≡ old ++ d ∷ []) → OnOk r (With (map client_side new) ≡ accounts_admitted (client_side d) a)
  admitted_view a (Ok x) is added = ap With (sides added) ∙ ap (accounts_admitted (client_side d)) is
  admitted_view a (Err e) is added = tt

-- the name of a client without a desk is a new one
pub name_added : {S : Type 0} (names added : List ClientId) (ds new : List (ClientDesk S)) (d : ClientDesk S) → names ≡ map (λ x. x.client) ds → desk_place d.client.0 (map client_side ds) ≡ None
    → added ≡ insert_key (λ (a b : ClientId). a.0 == b.0) names d.client → new ≡ ds ++ d ∷ [] → added ≡ map (λ x. x.client) new
name_added names added ds new d named none inserted pushed =
    let absent : list_any (λ (k : ClientId). d.client.0 == k.0) names ≡ false = ap (list_any (λ (k : ClientId). d.client.0 == k.0)) named ∙ named_as d.client ds ∙ none_any (map client_side ds) (not_found (λ x. d.client.0 == x.client) (map client_side ds) none) in
    let fresh : insert_key (λ (a b : ClientId). a.0 == b.0) names d.client ≡ names ++ d.client ∷ [] = rw absent refl in
    inserted ∙ fresh ∙ ap (λ ks. ks ++ d.client ∷ []) named ∙ sym (ap (map (λ x. x.client)) pushed ∙ map-append (λ x. x.client) ds (d ∷ []))
  where
    none_any : (xs : List ClientSide) → AllByRecursion (λ x. (d.client.0 == x.client) ≡ false) xs → list_any (λ x. d.client.0 == x.client) xs ≡ false
    none_any [] h = refl
    none_any (x ∷ xs) h = ap (λ b. b || list_any (λ (y : ClientSide). d.client.0 == y.client) xs) h.0 ∙ none_any xs h.1
