-- What one more entry does to a server's desk, and how a write at one desk is seen.
use Rattle.std.proofs.Common.{◌≡◌, ℕ, ◌+◌, ◌<◌, List, [], ◌∷◌, ◌++◌, length, map, set, get_or, refl, sym, ap, ◌∙◌, subst, arith, true, false, inl, inr, ◌==◌}
use Rattle.std.proofs.lemmas.List.{get_or-set_same, get_or-set_other, get_or-map, map-set, length-map, length-set}
use Rattle.std.specs.Borrow.{MutBor}
use Rattle.std.specs.Prelude.{Option, Some, None, IsSome, IfSome}
use Rattle.std.proofs.lemmas.Bool.Decides.{eqb_tells}
use Rattle.std.proofs.lemmas.Bool.{eq-eqb}
use Rattle.dmc_types.specs.Values.{Params, Counts}
use Rattle.dmc_types.specs.declared.ids.ServerId.{ServerId}
use Rattle.dmc_types.specs.declared.config.PhaseType.{PhaseType}
use Rattle.dmc_types.specs.declared.config.PhaseType.TheVariants.{Reservation, Priority}
use Rattle.dmc_tracker.specs.declared.event.TrackerEvent.{TrackerEvent}
use Rattle.dmc_tracker.specs.declared.event.TrackerEvent.TheVariants.{Stamp, Skip, Response}
use Rattle.dmc_tracker.proofs.ForCallers.{sent-response, sent-skip, sent-stamp_same, sent-stamp_other, stamps-response, stamps-skip, stamps-stamp_same, stamps-stamp_other, responses-skip, responses-stamp, responses-response_same, responses-response_other, responses-reservation-priority, responses-priority-reservation, response_costs-skip, response_costs-stamp, response_costs-response_same, response_costs-response_other, response_costs-reservation-priority, response_costs-priority-reservation, same_server}
use Rattle.dmc_ledger.specs.Accounts.{Account}
use Rattle.dmc_ledger.specs.Bundles.{ServerSide, StampAccounts, StampHoldings, PhaseHoldings, GrantHoldings, server_side, stamp_holdings}
use Rattle.dmc_ledger.specs.declared.bundle.StampTills.{StampTills}
use Rattle.dmc_ledger.specs.declared.desk.ServerDesk.{ServerDesk}
use Rattle.dmc_ledger.specs.Moves.{after_issue, books_after_stamp, tills_after_response, tills_in, with_grant}
use Rattle.dmc_tlock.specs.BookState.{no_side, no_tills, desk_at}
use Rattle.dmc_tlock.specs.Consistent.{IsBook, AreStampBooks, ArePhaseTills, AreGrantTills, IsDesk}
use Rattle.dmc_tlock.specs.Entries.{side_after_stamp, side_after_response}

-- a book that issued an amount, and a book whose total has another name
more : (n m k : ℕ) (b : Account) → m ≡ n + k → IsBook n 0 2 b → IsBook m 0 2 (after_issue k b)
more n m k b e h = record { total = omega (arith, e, h.total); gathered = h.gathered; open_tills = h.open_tills }

same : (n m : ℕ) (b : Account) → m ≡ n → IsBook n 0 2 b → IsBook m 0 2 b
same n m b e h = record { total = h.total ∙ sym e; gathered = h.gathered; open_tills = h.open_tills }

module _ (events : List TrackerEvent) (s : ServerId) where
  here : (s.0 == s.0) ≡ true
  here = eq-eqb s.0 s.0 refl

  -- the stamp books: a stamp to their server, a stamp to another, a skip, a response
  books-stamp_same : (p : Params) (b : StampAccounts) → AreStampBooks events s b
      → AreStampBooks (events ++ Stamp s p ∷ []) s (books_after_stamp p b)
  books-stamp_same p b h =
      let sums = sent-stamp_same s events s p here in
      record {
        stamps = more _ _ 1 _ (stamps-stamp_same s events s p here) h.stamps;
        delta = more _ _ p.delta _ (ap (λ (x : Counts). x.delta) sums) h.delta;
        rho = more _ _ p.rho _ (ap (λ (x : Counts). x.rho) sums) h.rho;
      }

  books-stamp_other : (q : ServerId) (p : Params) (b : StampAccounts) → (q.0 == s.0) ≡ false → AreStampBooks events s b
      → AreStampBooks (events ++ Stamp q p ∷ []) s b
  books-stamp_other q p b there h =
      let sums = sent-stamp_other s events q p there in
      record {
        stamps = same _ _ _ (stamps-stamp_other s events q p there) h.stamps;
        delta = same _ _ _ (ap (λ (x : Counts). x.delta) sums) h.delta;
        rho = same _ _ _ (ap (λ (x : Counts). x.rho) sums) h.rho;
      }

  books-skip : (q : ServerId) (b : StampAccounts) → AreStampBooks events s b → AreStampBooks (events ++ Skip q ∷ []) s b
  books-skip q b h =
      let sums = sent-skip s events q in
      record {
        stamps = same _ _ _ (stamps-skip s events q) h.stamps;
        delta = same _ _ _ (ap (λ (x : Counts). x.delta) sums) h.delta;
        rho = same _ _ _ (ap (λ (x : Counts). x.rho) sums) h.rho;
      }

  books-response : (q : ServerId) (phase : PhaseType) (cost : ℕ) (b : StampAccounts) → AreStampBooks events s b
      → AreStampBooks (events ++ Response q phase cost ∷ []) s b
  books-response q phase cost b h =
      let sums = sent-response s events q phase cost in
      record {
        stamps = same _ _ _ (stamps-response s events q phase cost) h.stamps;
        delta = same _ _ _ (ap (λ (x : Counts). x.delta) sums) h.delta;
        rho = same _ _ _ (ap (λ (x : Counts). x.rho) sums) h.rho;
      }

  -- the grant tills of a phase: a stamp, a skip, a response of their server in the phase, a response of another
  phase-stamp : (q : ServerId) (p : Params) (phase : PhaseType) (t : PhaseHoldings) → ArePhaseTills events s phase t
      → ArePhaseTills (events ++ Stamp q p ∷ []) s phase t
  phase-stamp q p phase t h = record {
    grants = h.grants ∙ sym (responses-stamp s events phase q p);
    cost = h.cost ∙ sym (response_costs-stamp s events phase q p);
  }

  phase-skip : (q : ServerId) (phase : PhaseType) (t : PhaseHoldings) → ArePhaseTills events s phase t
      → ArePhaseTills (events ++ Skip q ∷ []) s phase t
  phase-skip q phase t h = record {
    grants = h.grants ∙ sym (responses-skip s events phase q);
    cost = h.cost ∙ sym (response_costs-skip s events phase q);
  }

  phase-response_same : (phase : PhaseType) (cost : ℕ) (t : PhaseHoldings) → ArePhaseTills events s phase t
      → ArePhaseTills (events ++ Response s phase cost ∷ []) s phase (with_grant cost t)
  phase-response_same phase cost t h = record {
    grants = omega (arith, responses-response_same s events phase s cost here, h.grants);
    cost = omega (arith, response_costs-response_same s events phase s cost here, h.cost);
  }

  phase-response_other : (q : ServerId) (granted : PhaseType) (cost : ℕ) (phase : PhaseType) (t : PhaseHoldings) → (q.0 == s.0) ≡ false
      → ArePhaseTills events s phase t → ArePhaseTills (events ++ Response q granted cost ∷ []) s phase t
  phase-response_other q granted cost phase t there h = record {
    grants = h.grants ∙ sym (responses-response_other s events phase q granted cost there);
    cost = h.cost ∙ sym (response_costs-response_other s events phase q granted cost there);
  }

  -- those of both phases
  tills-stamp : (q : ServerId) (p : Params) (t : GrantHoldings) → AreGrantTills events s t → AreGrantTills (events ++ Stamp q p ∷ []) s t
  tills-stamp q p t h = record {
    reservation = phase-stamp q p Reservation t.reservation h.reservation;
    priority = phase-stamp q p Priority t.priority h.priority;
  }

  tills-skip : (q : ServerId) (t : GrantHoldings) → AreGrantTills events s t → AreGrantTills (events ++ Skip q ∷ []) s t
  tills-skip q t h = record {
    reservation = phase-skip q Reservation t.reservation h.reservation;
    priority = phase-skip q Priority t.priority h.priority;
  }

  tills-response_same : (phase : PhaseType) (cost : ℕ) (t : GrantHoldings) → AreGrantTills events s t
      → AreGrantTills (events ++ Response s phase cost ∷ []) s (tills_after_response phase cost t)
  tills-response_same Reservation cost t h = record {
    reservation = phase-response_same Reservation cost t.reservation h.reservation;
    priority = record {
      grants = h.priority.grants ∙ sym (responses-priority-reservation s events s cost);
      cost = h.priority.cost ∙ sym (response_costs-priority-reservation s events s cost);
    };
  }
  tills-response_same Priority cost t h = record {
    reservation = record {
      grants = h.reservation.grants ∙ sym (responses-reservation-priority s events s cost);
      cost = h.reservation.cost ∙ sym (response_costs-reservation-priority s events s cost);
    };
    priority = phase-response_same Priority cost t.priority h.priority;
  }

  tills-response_other : (q : ServerId) (phase : PhaseType) (cost : ℕ) (t : GrantHoldings) → (q.0 == s.0) ≡ false → AreGrantTills events s t
      → AreGrantTills (events ++ Response q phase cost ∷ []) s t
  tills-response_other q phase cost t there h = record {
    reservation = phase-response_other q phase cost Reservation t.reservation there h.reservation;
    priority = phase-response_other q phase cost Priority t.priority there h.priority;
  }

module _ (client : ℕ) (events : List TrackerEvent) (s : ServerId) where
  -- the desk of s, and that of another
  pub IsDesk-stamp_same : (p : Params) (d : ServerSide) → IsDesk client events s d
      → IsDesk client (events ++ Stamp s p ∷ []) s (side_after_stamp p d)
  IsDesk-stamp_same p d h = record {
    its_client = h.its_client;
    its_server = h.its_server;
    books = books-stamp_same events s p d.books h.books;
    held = tills-stamp events s s p d.held h.held;
  }

  pub IsDesk-stamp_other : (p : Params) (q : ServerId) (d : ServerSide) → (s.0 == q.0) ≡ false → IsDesk client events q d
      → IsDesk client (events ++ Stamp s p ∷ []) q d
  IsDesk-stamp_other p q d there h = record {
    its_client = h.its_client;
    its_server = h.its_server;
    books = books-stamp_other events q s p d.books there h.books;
    held = tills-stamp events q s p d.held h.held;
  }

  -- a skip leaves each desk
  pub IsDesk-skip : (q : ServerId) (d : ServerSide) → IsDesk client events s d → IsDesk client (events ++ Skip q ∷ []) s d
  IsDesk-skip q d h = record {
    its_client = h.its_client;
    its_server = h.its_server;
    books = books-skip events s q d.books h.books;
    held = tills-skip events s q d.held h.held;
  }

  pub IsDesk-response_same : (phase : PhaseType) (cost : ℕ) (d : ServerSide) → IsDesk client events s d
      → IsDesk client (events ++ Response s phase cost ∷ []) s (side_after_response phase cost d)
  IsDesk-response_same phase cost d h = record {
    its_client = h.its_client;
    its_server = h.its_server;
    books = books-response events s s phase cost d.books h.books;
    held = tills-response_same events s phase cost d.held h.held;
  }

  pub IsDesk-response_other : (phase : PhaseType) (cost : ℕ) (q : ServerId) (d : ServerSide) → (s.0 == q.0) ≡ false → IsDesk client events q d
      → IsDesk client (events ++ Response s phase cost ∷ []) q d
  IsDesk-response_other phase cost q d there h = record {
    its_client = h.its_client;
    its_server = h.its_server;
    books = books-response events q s phase cost d.books h.books;
    held = tills-response_other events q s phase cost d.held there h.held;
  }

-- one desk is replaced, and what the others keep stays
pub at_set : (P Q : ServerId → ServerSide → Type 0) (desks : List ServerSide) (s : ServerId) (x : ServerSide) → s.0 < length desks
    → ((q : ServerId) → q.0 < length desks → P q (desk_at desks q)) → Q s x
    → ((q : ServerId) (d : ServerSide) → (s.0 == q.0) ≡ false → P q d → Q q d)
    → (q : ServerId) → q.0 < length (set desks s.0 x) → Q q (desk_at (set desks s.0 x) q)
at_set P Q desks s x within each its others q inside =
    let q_in : q.0 < length desks = omega (arith, length-set desks s.0 x) in
    elim (eqb_tells s.0 q.0) [
      | inl same ↦
          subst (λ (k : ServerId). Q k (get_or (set desks s.0 x) k.0 no_side)) (same_server s q same.1)
          (rw (get_or-set_same desks s.0 x no_side within) its)
      | inr there ↦
          rw (get_or-set_other desks s.0 q.0 x no_side (λ e. there.1 (sym e)))
          (others q (get_or desks q.0 no_side) there.0 (each q q_in))
    ]

-- the i-th of these desks is that of s: it is within, and this is how it is seen
pub record IsDeskOf {S : Type 0} (items : List (ServerDesk S)) (s : ServerId) (desk : ServerDesk S) : Type 0 where
  pub within : s.0 < length (map server_side items)
  pub seen : desk_at (map server_side items) s ≡ server_side desk

pub found : {S : Type 0} (items : List (ServerDesk S)) (s : ServerId) (i : ℕ) (x : ServerDesk S) → i ≡ s.0 → i < length items
    → x ≡ get_or items i x → IsDeskOf items s x
found {S} items s i x place within is =
    let f : ServerDesk S → ServerSide = server_side in
    record {
      within = omega (arith, place, within, length-map items f);
      seen = rw (← place) (get_or-map f items i x no_side within ∙ ap f (sym is));
    }

-- the held tills of a phase of that desk
pub held_seen : {S : Type 0} {items : List (ServerDesk S)} {s : ServerId} {desk : ServerDesk S} {held : PhaseHoldings} {given phase : PhaseType}
    → IsDeskOf items s desk → given ≡ phase → held ≡ tills_in given (server_side desk).held
    → held ≡ tills_in phase (desk_at (map server_side items) s).held
held_seen {desk = desk} {phase = phase} at named its =
    its ∙ ap (λ k. tills_in k (server_side desk).held) named ∙ ap (λ (d : ServerSide). tills_in phase d.held) (sym at.seen)

-- a write at one desk, as it is seen
pub desks-set : {S : Type 0} (move : ServerSide → ServerSide) (items : List (ServerDesk S)) (s : ServerId) (i : ℕ) (old new : ServerDesk S)
    → i ≡ s.0 → i < length items → old ≡ get_or items i old → server_side new ≡ move (server_side old)
    → map server_side (set items i new) ≡ set (map server_side items) s.0 (move (desk_at (map server_side items) s))
desks-set {S} move items s i old new place within is e =
    let f : ServerDesk S → ServerSide = server_side in
    let seen : get_or (map f items) i no_side ≡ f old = get_or-map f items i old no_side within ∙ ap f (sym is) in
    rw (← place) (map-set f items i new ∙ ap (λ x. set (map f items) i x) (e ∙ ap move (sym seen)))

-- a bundle of a pass, as it is seen
pub tills_seen : {S : Type 0} (r : Option (MutBor (StampTills S))) (items : List (StampTills S)) (n : ℕ) → (IsSome r → n < length items)
    → IfSome r (λ x. x.now ≡ get_or items n x.now) → IfSome r (λ x. stamp_holdings x.now ≡ get_or (map stamp_holdings items) n no_tills)
tills_seen {S} None items n within is = is
tills_seen {S} (Some x) items n within is =
    let f : StampTills S → StampHoldings = stamp_holdings in
    ap f is ∙ sym (get_or-map f items n x.now no_tills (within refl))
