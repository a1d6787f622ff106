-- What is written at the desk of one client is what the event moves in all desks.
use Rattle.std.proofs.Common.{◌≡◌, ℕ, zero, suc, ◌+◌, ◌<◌, ◌&&◌, Bool, true, false, true≢false, List, [], ◌∷◌, map, length, ap, ◌∙◌, refl, sym, subst, Option, Some, None, slice_index_or, slice_set, slice_get, arith}
use Rattle.std.specs.Prelude.{◌==◌, if◌then◌else◌, option_map}
use Rattle.std.specs.List.{AllByRecursion, position}
use Rattle.std.proofs.lemmas.List.Quantifiers.{position-Some}
use Rattle.std.proofs.lemmas.Bool.{and_parts, eq-eqb, eqb-true}
use Rattle.dmc_types.specs.Values.{Params, no_counts, counts_of}
use Rattle.dmc_types.specs.declared.ids.ClientId.{ClientId}
use Rattle.dmc_types.specs.declared.config.PhaseType.{PhaseType}
use Rattle.dmc_types.specs.declared.config.PhaseType.TheVariants.{Reservation, Priority}
use Rattle.dmc_tag.specs.declared.event.Event.{Event}
use Rattle.dmc_ledger.specs.Accounts.{Holding}
use Rattle.dmc_ledger.specs.Bundles.{ClientSide, GrantAccounts, GrantHoldings, PhaseAccounts, PhaseHoldings, StampHoldings, client_side, grant_accounts, grant_holdings, stamp_holdings, StampValue, UnitValue}
use Rattle.dmc_ledger.specs.Moves.{ArePhaseOf, after_issue, with_more, books_in, tills_in, tills_after_stamp, tills_after_response}
use Rattle.dmc_ledger.specs.internal.Moves.{books_after_grant}
use Rattle.dmc_ledger.specs.declared.desk.ClientDesk.{ClientDesk}
use Rattle.dmc_ledger.specs.declared.bundle.GrantTills.{GrantTills}
use Rattle.dmc_tag.specs.declared.reply.Reply.{Reply}
use Rattle.dmc_tag.specs.declared.reply.Reply.TheVariants.{Registered, Updated, Tagged, Granted, Later, Nothing, Removed, Cleaned, Refused}
use Rattle.dmc_pull.specs.Allowed.{is_allowed}
use Rattle.dmc_book.specs.BookState.{no_desk}
use Rattle.dmc_book.specs.Calls.{AreAlike, IsForDesk}
use Rattle.dmc_book.specs.Consistent.{AreClientsApart}
use Rattle.dmc_book.specs.internal.Consistent.{AreGrantsWithin, IsPhaseWithin}
use Rattle.dmc_book.specs.declared.counts.Grant.{Grant}
use Rattle.dmc_book.specs.Counts.{accepted, cost_granted, costs_added, costs_for, grant_in, grants_added, stamps_added, delta_added, rho_added, stamps_for, counts_for, units_for, one_if, is_phase}
use Rattle.dmc_book.specs.Moves.{are_phase_of, desk_after, desk_place, phase_after, same_place, takes_at, is_unit_of, unit_at, unit_of}
use Rattle.dmc_book.proofs.WorkerLemmas.{issue_none}
use Rattle.dmc_lemmas.proofs.Lists.{map_unmoved, all_as, position_map}
use Rattle.dmc_lemmas.proofs.Booleans.{eqb_turned}
use Rattle.std.proofs.lemmas.Option.{none-some, same_Some}

more_none : (h : Holding) → with_more 0 h ≡ h
more_none h = let e : h.amount + 0 ≡ h.amount = omega arith in ap (λ (n : ℕ). record h { amount = n }) e

-- ---- places

-- the names of the desks find the same place
pub places_agree : {S : Type 0} (id : ℕ) (names : List ClientId) (ds : List (ClientDesk S)) → names ≡ map (λ d. d.client) ds → position (λ (k : ClientId). id == k.0) names ≡ desk_place id (map client_side ds)
places_agree id names ds named = ap (position (λ (k : ClientId). id == k.0)) named ∙ position_map (λ d. d.client) (λ (k : ClientId). id == k.0) ds ∙ sym (position_map client_side (λ d. id == d.client) ds)

-- a place is that of a desk of this client
pub placed : (id : ℕ) (ds : List ClientSide) (i : ℕ) → desk_place id ds ≡ Some i → (i < length ds) × ((slice_index_or ds i no_desk).client ≡ id)
placed id ds i h =
    let found = position-Some (λ d. id == d.client) ds i no_desk h in
    (found.0, sym (eqb-true id _ found.1))

-- ---- one desk

module _ {T : Type 0} (e : Event T) where
  -- what moves no stamp and no grant of a client leaves its desk
  pub record IsIdlePhase (client : ℕ) (phase : PhaseType) : Type 0 where
    pub grants : grants_added client phase e ≡ 0
    pub cost : costs_added client phase e ≡ 0

  pub record IsIdle (d : ClientSide) : Type 0 where
    pub stamps : stamps_added d.client e ≡ 0
    pub delta : delta_added d.client e ≡ 0
    pub rho : rho_added d.client e ≡ 0
    pub reservation : IsIdlePhase d.client Reservation
    pub priority : IsIdlePhase d.client Priority

  idle_phase_stays : (client : ℕ) (phase : PhaseType) (books : PhaseAccounts) → IsIdlePhase client phase → phase_after client phase e books ≡ books
  idle_phase_stays client phase books h =
      rw (
        ap (λ n. after_issue n books.grants) h.grants ∙ issue_none books.grants,
        ap (λ n. after_issue n books.cost) h.cost ∙ issue_none books.cost,
      ) refl

  idle_stays : (d : ClientSide) → IsIdle d → desk_after e d ≡ d
  idle_stays d h =
      rw (
        ap (λ n. with_more n d.held.stamps) h.stamps ∙ more_none d.held.stamps,
        ap (λ n. with_more n d.held.delta) h.delta ∙ more_none d.held.delta,
        ap (λ n. with_more n d.held.rho) h.rho ∙ more_none d.held.rho,
        idle_phase_stays d.client Reservation d.books.reservation h.reservation,
        idle_phase_stays d.client Priority d.books.priority h.priority,
      ) refl

  -- without a grant each phase of each client is such a one
  ungranted : grant_in e.reply ≡ None → (client : ℕ) (phase : PhaseType) → IsIdlePhase client phase
  ungranted g client phase = record { grants = ap (units_for client phase) g; cost = ap (costs_for client phase) g }

  -- an event of one client: what it brings, and what it is granted
  module _ (client : ClientId) (idle : (d : ClientSide) → (client.0 == d.client) ≡ false → IsIdle d) where
    behind : (d : ClientSide) (ds : List ClientSide) → d.client ≡ client.0 → AllByRecursion (λ other. (other.client == d.client) ≡ false) ds → map (desk_after e) ds ≡ ds
    behind d ds same h = map_unmoved (desk_after e) ds (all_as _ _ (λ o z. idle_stays o (idle o (eqb_turned client.0 o.client false (ap (λ (n : ℕ). o.client == n) (sym same) ∙ z)))) ds h)

    before : (d : ClientSide) (ds : List ClientSide) (i : ℕ) → i < length ds → AllByRecursion (λ other. (other.client == d.client) ≡ false) ds → (slice_index_or ds i no_desk).client ≡ client.0 → (client.0 == d.client) ≡ false
    before d [] i w h here = absurd (omega (arith, w))
    before d (o ∷ ds) zero w h here = ap (λ (n : ℕ). n == d.client) (sym here) ∙ h.0
    before d (o ∷ ds) (suc i) w h here = before d ds i (omega (arith, w)) h.1 here

    module _ {S : Type 0} where
      at_map : (ys : List (ClientDesk S)) (j : ℕ) → j < length ys → j < length (map client_side ys)
      at_map [] j h = absurd (omega (arith, h))
      at_map (y ∷ ys) zero h = omega arith
      at_map (y ∷ ys) (suc j) h = let rest = at_map ys j (omega (arith, h)) in omega arith

      pub written : (ds : List (ClientDesk S)) (i : ℕ) (d new : ClientDesk S) → i < length ds → (slice_index_or (map client_side ds) i no_desk).client ≡ client.0 → AreClientsApart (map client_side ds) → ((slice_index_or ds i d).client.0 ≡ client.0 → client_side new ≡ desk_after e (client_side (slice_index_or ds i d))) → map client_side (slice_set ds i new) ≡ map (desk_after e) (map client_side ds)
      written [] i d new w here apart h = absurd (omega (arith, w))
      written (x ∷ xs) zero d new w here apart h =
          ap (λ y. y ∷ map client_side xs) (h here) ∙ ap (λ ys. desk_after e (client_side x) ∷ ys) (sym (behind (client_side x) (map client_side xs) here apart.0))
      written (x ∷ xs) (suc i) d new w here apart h =
          let less : i < length xs = omega (arith, w) in
          ap (λ ys. client_side x ∷ ys) (written xs i d new less here apart.1 h) ∙ ap (λ y. y ∷ map (desk_after e) (map client_side xs)) (sym (idle_stays (client_side x) (idle (client_side x) (before (client_side x) (map client_side xs) i (at_map xs i less) apart.0 here))))

  -- ---- no stamp and no grant; a stamp; a grant

  pub all_stay : accepted e ≡ None → grant_in e.reply ≡ None → (ds : List ClientSide) → map (desk_after e) ds ≡ ds
  all_stay a g ds = map_unmoved (desk_after e) ds (each ds)
    where
      each : (ds : List ClientSide) → AllByRecursion (λ d. desk_after e d ≡ d) ds
      each [] = tt
      each (d ∷ ds) = (
        idle_stays d (record {
          stamps = ap (stamps_for d.client) a;
          delta = ap (λ o. (counts_for d.client o).delta) a;
          rho = ap (λ o. (counts_for d.client o).rho) a;
          reservation = ungranted g d.client Reservation;
          priority = ungranted g d.client Priority;
        }),
        each ds,
      )

  module _ (client : ClientId) (params : Params) (a : accepted e ≡ Some (client, params)) (g : grant_in e.reply ≡ None) where
    pub stamp_idle : (d : ClientSide) → (client.0 == d.client) ≡ false → IsIdle d
    stamp_idle d h = record {
      stamps = ap (stamps_for d.client) a ∙ ap one_if h;
      delta = ap (λ o. (counts_for d.client o).delta) a ∙ ap (λ b. (if b then counts_of params else no_counts).delta) h;
      rho = ap (λ o. (counts_for d.client o).rho) a ∙ ap (λ b. (if b then counts_of params else no_counts).rho) h;
      reservation = ungranted g d.client Reservation;
      priority = ungranted g d.client Priority;
    }

    pub stamp_taken : (d : ClientSide) → d.client ≡ client.0 → desk_after e d ≡ record d { held = tills_after_stamp params d.held }
    stamp_taken d same =
        let h : (client.0 == d.client) ≡ true = eq-eqb client.0 d.client (sym same) in
        let s : stamps_added d.client e ≡ 1 = ap (stamps_for d.client) a ∙ ap one_if h in
        let x : delta_added d.client e ≡ params.delta = ap (λ o. (counts_for d.client o).delta) a ∙ ap (λ b. (if b then counts_of params else no_counts).delta) h in
        let y : rho_added d.client e ≡ params.rho = ap (λ o. (counts_for d.client o).rho) a ∙ ap (λ b. (if b then counts_of params else no_counts).rho) h in
        rw (
          ap (λ n. with_more n d.held.stamps) s,
          ap (λ n. with_more n d.held.delta) x,
          ap (λ n. with_more n d.held.rho) y,
          idle_phase_stays d.client Reservation d.books.reservation (ungranted g d.client Reservation),
          idle_phase_stays d.client Priority d.books.priority (ungranted g d.client Priority),
        ) refl

  module _ (grant : Grant) (a : accepted e ≡ None) (g : grant_in e.reply ≡ Some grant) where
    not_granted : (client : ℕ) → (grant.client.0 == client) ≡ false → (phase : PhaseType) → IsIdlePhase client phase
    not_granted client h phase = record {
      grants = ap (units_for client phase) g ∙ ap (λ b. one_if (b && is_phase phase grant.phase)) h;
      cost = ap (costs_for client phase) g ∙ ap (λ b. if b && is_phase phase grant.phase then grant.cost else 0) h;
    }

    pub grant_idle : (d : ClientSide) → (grant.client.0 == d.client) ≡ false → IsIdle d
    grant_idle d h = record {
      stamps = ap (stamps_for d.client) a;
      delta = ap (λ o. (counts_for d.client o).delta) a;
      rho = ap (λ o. (counts_for d.client o).rho) a;
      reservation = not_granted d.client h Reservation;
      priority = not_granted d.client h Priority;
    }

    -- the books of a phase of the client, if the grant is in it or in the other
    abbrev after_if : Bool → PhaseAccounts → PhaseAccounts
    after_if b books = record { grants = after_issue (one_if b) books.grants; cost = after_issue (if b then grant.cost else 0) books.cost }

    own_phase : (client : ℕ) (phase : PhaseType) (books : PhaseAccounts) → (grant.client.0 == client) ≡ true → phase_after client phase e books ≡ after_if (is_phase phase grant.phase) books
    own_phase client phase books h =
        let n : grants_added client phase e ≡ one_if (is_phase phase grant.phase) = ap (units_for client phase) g ∙ ap (λ b. one_if (b && is_phase phase grant.phase)) h in
        let c : costs_added client phase e ≡ (if is_phase phase grant.phase then grant.cost else 0) = ap (costs_for client phase) g ∙ ap (λ b. if b && is_phase phase grant.phase then grant.cost else 0) h in
        rw (n, c) refl

    other_phase : (books : PhaseAccounts) → after_if false books ≡ books
    other_phase books = rw (issue_none books.grants, issue_none books.cost) refl

    issued_in : (p : PhaseType) (books : GrantAccounts) → record books { reservation = after_if (is_phase Reservation p) books.reservation; priority = after_if (is_phase Priority p) books.priority } ≡ books_after_grant p grant.cost books
    issued_in Reservation books = rw (other_phase books.priority) refl
    issued_in Priority books = rw (other_phase books.reservation) refl

    pub grant_issued : (d : ClientSide) → d.client ≡ grant.client.0 → desk_after e d ≡ record d { books = books_after_grant grant.phase grant.cost d.books }
    grant_issued d same =
        let h : (grant.client.0 == d.client) ≡ true = eq-eqb grant.client.0 d.client (sym same) in
        rw (
          ap (λ n. with_more n d.held.stamps) (ap (stamps_for d.client) a) ∙ more_none d.held.stamps,
          ap (λ n. with_more n d.held.delta) (ap (λ o. (counts_for d.client o).delta) a) ∙ more_none d.held.delta,
          ap (λ n. with_more n d.held.rho) (ap (λ o. (counts_for d.client o).rho) a) ∙ more_none d.held.rho,
          own_phase d.client Reservation d.books.reservation h,
          own_phase d.client Priority d.books.priority h,
        )
        (ap (λ bs. record d { books = bs }) (issued_in grant.phase d.books))

pub phase_fits : (n : ℕ) (phase : PhaseType) (books : GrantAccounts) → AreGrantsWithin n books → IsPhaseWithin n (books_in phase books)
phase_fits n Reservation books h = h.reservation
phase_fits n Priority books h = h.priority

-- tills that pass the test are of a phase's books
phase_of : (tills : PhaseHoldings) (books : PhaseAccounts) → are_phase_of tills books ≡ true → ArePhaseOf tills books
phase_of tills books h = (
    let two = and_parts (tills.grants.number == books.grants.number) _ h in
    record { grants = eqb-true _ _ two.0; cost = eqb-true _ _ two.1 })

-- ---- what is at a place

pub some_at : {X Y : Type 0} (f : X → Y) (xs : List X) (i : ℕ) (d : X) → i < length xs → slice_get (map f xs) i ≡ Some (f (slice_index_or xs i d))
some_at f [] i d h = absurd (omega (arith, h))
some_at f (x ∷ xs) zero d h = refl
some_at f (x ∷ xs) (suc i) d h = some_at f xs i d (omega (arith, h))

module _ {S : Type 0} where
  pub desk_within : (ds : List (ClientDesk S)) (i : ℕ) → i < length (map client_side ds) → i < length ds
  desk_within [] i h = absurd (omega (arith, h))
  desk_within (x ∷ xs) zero h = omega arith
  desk_within (x ∷ xs) (suc i) h = let rest = desk_within xs i (omega (arith, h)) in omega arith

  pub desk_at : (ds : List (ClientDesk S)) (i : ℕ) (d : ClientDesk S) → i < length ds → slice_index_or (map client_side ds) i no_desk ≡ client_side (slice_index_or ds i d)
  desk_at [] i d h = absurd (omega (arith, h))
  desk_at (x ∷ xs) zero d h = refl
  desk_at (x ∷ xs) (suc i) d h = desk_at xs i d (omega (arith, h))

  pub grants_fit : (n : ℕ) (ds : List (ClientDesk S)) (i : ℕ) (d : ClientDesk S) → AllByRecursion (λ d. AreGrantsWithin n d.books) (map client_side ds) → i < length ds → AreGrantsWithin n (grant_accounts ((slice_index_or ds i d).books))
  grants_fit n [] i d h l = absurd (omega (arith, l))
  grants_fit n (x ∷ xs) zero d h l = h.0
  grants_fit n (x ∷ xs) (suc i) d h l = grants_fit n xs i d h.1 (omega (arith, l))

  pub names_stay : (ds : List (ClientDesk S)) (i : ℕ) (d new : ClientDesk S) → new.client ≡ (slice_index_or ds i d).client → map (λ d. d.client) (slice_set ds i new) ≡ map (λ d. d.client) ds
  names_stay [] i d new h = refl
  names_stay (x ∷ xs) zero d new h = ap (λ k. k ∷ map (λ d. d.client) xs) h
  names_stay (x ∷ xs) (suc i) d new h = ap (λ ks. x.client ∷ ks) (names_stay xs i d new h)

  -- a pass that takes a grant has tills of the desk's books
  taken_from : (phase : PhaseType) (desk : ClientSide) (us : List (GrantTills S)) (i : ℕ) (u : GrantTills S) → is_unit_of phase (Some desk) (slice_get (map grant_holdings us) i) ≡ true → ArePhaseOf (tills_in phase (grant_holdings (slice_index_or us i u))) (books_in phase desk.books)
  taken_from phase desk [] i u h = absurd (true≢false (sym h))
  taken_from phase desk (x ∷ xs) zero u h = phase_of _ _ h
  taken_from phase desk (x ∷ xs) (suc i) u h = taken_from phase desk xs i u h

  within_units : (phase : PhaseType) (desk : Option ClientSide) (us : List (GrantTills S)) (i : ℕ) → is_unit_of phase desk (slice_get (map grant_holdings us) i) ≡ true → i < length us
  within_units phase None us i h = absurd (true≢false (sym h))
  within_units phase (Some desk) [] i h = absurd (true≢false (sym h))
  within_units phase (Some desk) (x ∷ xs) zero h = omega arith
  within_units phase (Some desk) (x ∷ xs) (suc i) h = let rest = within_units phase (Some desk) xs i h in omega (arith, rest)

  pub unit_within : (phase : PhaseType) (ds : List (ClientDesk S)) (us : List (GrantTills S)) (i : ℕ) → takes_at phase (map client_side ds) (map grant_holdings us) (Some i) ≡ true → i < length us
  unit_within phase ds us i h = within_units phase (slice_get (map client_side ds) i) us i h

  pub unit_there : (phase : PhaseType) (ds : List (ClientDesk S)) (us : List (GrantTills S)) (i : ℕ) (d : ClientDesk S) (u : GrantTills S) → i < length ds → takes_at phase (map client_side ds) (map grant_holdings us) (Some i) ≡ true → ArePhaseOf (tills_in phase (grant_holdings (slice_index_or us i u))) (books_in phase (grant_accounts ((slice_index_or ds i d).books)))
  unit_there phase ds us i d u w h = taken_from phase (client_side (slice_index_or ds i d)) us i u (ap (λ o. is_unit_of phase o (slice_get (map grant_holdings us) i)) (sym (some_at client_side ds i d w)) ∙ h)

  pub unit_set : (us : List (GrantTills S)) (i : ℕ) (u new : GrantTills S) (grant : Grant) → i < length us → grant_holdings new ≡ tills_after_response grant.phase grant.cost (grant_holdings (slice_index_or us i u)) → map grant_holdings (slice_set us i new) ≡ unit_at grant (Some i) (map grant_holdings us)
  unit_set [] i u new grant w h = absurd (omega (arith, w))
  unit_set (x ∷ xs) zero u new grant w h = ap (λ y. y ∷ map grant_holdings xs) h
  unit_set (x ∷ xs) (suc i) u new grant w h = ap (λ ys. grant_holdings x ∷ ys) (unit_set xs i u new grant (omega (arith, w)) h)

-- ---- a grant that is allowed

abbrev value : {X : Type 0} → X → Option X → X
value x None = x
value x (Some y) = y

pub allowed_grant : {T : Type 0} (allows : ClientId → PhaseType → Bool) (reply : Reply T) (grant : Grant) → grant_in reply ≡ Some grant → is_allowed allows reply ≡ true → allows grant.client grant.phase ≡ true
allowed_grant allows Registered grant g h = absurd cc
allowed_grant allows Updated grant g h = absurd cc
allowed_grant allows (Tagged tags) grant g h = absurd cc
allowed_grant allows (Granted client token phase beyond cost) grant g h =
    let same = same_Some (record { client = client; phase = phase; cost = cost }) grant g in
    ap (λ (x : Grant). allows x.client x.phase) (sym same) ∙ h
allowed_grant allows (Later m) grant g h = absurd cc
allowed_grant allows Nothing grant g h = absurd cc
allowed_grant allows (Removed count) grant g h = absurd cc
allowed_grant allows (Cleaned idled erased) grant g h = absurd cc
allowed_grant allows (Refused refusal) grant g h = absurd cc

-- ---- what the unit of a reply costs

abbrev pub cost_of : Option UnitValue → ℕ
cost_of None = 0
cost_of (Some unit) = unit.cost

unit_cost : {T : Type 0} (server : ℕ) (reply : Reply T) → cost_of (option_map (unit_of server) (grant_in reply)) ≡ cost_granted reply
unit_cost server Registered = refl
unit_cost server Updated = refl
unit_cost server (Tagged tags) = refl
unit_cost server (Granted client token phase beyond cost) = refl
unit_cost server (Later m) = refl
unit_cost server Nothing = refl
unit_cost server (Removed count) = refl
unit_cost server (Cleaned idled erased) = refl
unit_cost server (Refused refusal) = refl

pub handed_cost : {T : Type 0} (server : ℕ) (reply : Reply T) (unit : Option UnitValue) → unit ≡ option_map (unit_of server) (grant_in reply) → cost_of unit ≡ cost_granted reply
handed_cost server reply unit is = ap cost_of is ∙ unit_cost server reply

-- ---- a pass that takes a grant names the client at the place of its desk

module _ (phase : PhaseType) (ds : List ClientSide) (us : List GrantHoldings) where
  there : (i j : ℕ) (b : Bool) → (i == j) ≡ b → takes_at phase ds us (if b then Some i else None) ≡ true → (Some i ≡ Some j) × (takes_at phase ds us (Some j) ≡ true)
  there i j true e h = let same = eqb-true i j e in (ap Some same, ap (λ k. takes_at phase ds us (Some k)) (sym same) ∙ h)
  there i j false e h = absurd (true≢false (sym h))

  pub named_there : (desk named : Option ℕ) (j : ℕ) → named ≡ Some j → takes_at phase ds us (same_place desk named) ≡ true → (desk ≡ Some j) × (takes_at phase ds us (Some j) ≡ true)
  named_there None named j is h = absurd (true≢false (sym h))
  named_there (Some i) named j is h = there i j (i == j) refl (ap (λ o. takes_at phase ds us (same_place (Some i) o)) (sym is) ∙ h)

-- ---- whose stamp it is

module _ {S : Type 0} (names : List ClientId) (ds : List (ClientDesk S)) (named : names ≡ map (λ d. d.client) ds) (server : ℕ) (stamp : StampValue) (tills : StampHoldings) where
  -- no desk of its client
  pub no_desk_for : position (λ (k : ClientId). stamp.client == k.0) names ≡ None → IsForDesk server (map client_side ds) stamp tills → ⊥
  no_desk_for none h = none-some h.place (sym none ∙ places_agree stamp.client names ds named ∙ h.here)

  pub no_till_for : (place : ℕ) (d : ClientDesk S) → position (λ (k : ClientId). stamp.client == k.0) names ≡ Some place → place < length ds → (AreAlike tills (stamp_holdings ((slice_index_or ds place d).held)) → ⊥) → IsForDesk server (map client_side ds) stamp tills → ⊥
  no_till_for place d found within others h =
      let same : place ≡ h.place = same_Some place h.place (sym found ∙ places_agree stamp.client names ds named ∙ h.here) in
      others (subst (λ (s : ClientSide). AreAlike tills s.held) (ap (λ n. slice_index_or (map client_side ds) n no_desk) (sym same) ∙ desk_at ds place d within) h.its_tills)

  pub for_desk : (place : ℕ) (d : ClientDesk S) → stamp.server ≡ server → position (λ (k : ClientId). stamp.client == k.0) names ≡ Some place → place < length ds → AreAlike tills (stamp_holdings ((slice_index_or ds place d).held)) → IsForDesk server (map client_side ds) stamp tills
  for_desk place d its found within alike = record {
    its_server = its;
    place = place;
    here = sym (places_agree stamp.client names ds named) ∙ found;
    its_tills = subst (λ (s : ClientSide). AreAlike tills s.held) (sym (desk_at ds place d within)) alike;
  }
