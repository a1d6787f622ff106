-- A book stays consistent when a request comes in, when its shard's queue refuses it, when a response leaves, and when a shard is
-- skipped.
use Rattle.std.proofs.Common.{◌≡◌, ℕ, ◌+◌, ◌-◌, ◌<◌, ◌≤◌, Result, Ok, Err, List, length, map, set, get_or, refl, sym, ap, ◌∙◌, subst, arith, inl, inr, ◌==◌}
use Rattle.std.specs.Prelude.{slice_set, IsOk, OnOk, OnErr}
use Rattle.std.proofs.lemmas.List.{set-get_or, get_or-set_same, get_or-set_other, get_or-map, length-map, length-set, map-set}
use Rattle.std.proofs.lemmas.Bool.Decides.{eqb_tells}
use Rattle.std.proofs.lemmas.Bool.{cases_lt}
use Rattle.dmc_types.specs.Limits.{max_count}
use Rattle.dmc_types.specs.Values.{Params, Counts, counts_of}
use Rattle.dmc_types.specs.declared.ids.ServerId.{ServerId}
use Rattle.dmc_types.specs.declared.config.PhaseType.{PhaseType}
use Rattle.dmc_tracker.specs.TrackerList.{plus}
use Rattle.dmc_tracker.proofs.ForCallers.{same_server}
use Rattle.dmc_shards.specs.declared.status.ShardStatus.{ShardStatus}
use Rattle.dmc_shards.specs.ShardNumbers.{Numbers, numbers_at, next_params, after_arrival, after_skip, grown, IsFullAt}
use Rattle.dmc_ledger.specs.Accounts.{Account, Holding}
use Rattle.dmc_ledger.specs.Bundles.{UnitValue}
use Rattle.dmc_ledger.specs.Moves.{after_issue, tills_in, with_more, with_less}
use Rattle.dmc_sharded.specs.declared.desk.ShardDesk.{ShardDesk}
use Rattle.dmc_sharded.specs.BookState.{BookState, DeskState, desk_at, desk_state, new_desk, IsBook, IsDesk, IsConsistent}
use Rattle.dmc_sharded.specs.declared.fault.ArriveFault.{ArriveFault}
use Rattle.dmc_sharded.specs.declared.fault.ArriveFault.TheVariants.{NoServer, TrackFull, Queue}
use Rattle.dmc_sharded.specs.Responding.{book_after_unit, desk_after_response}
use Rattle.dmc_sharded.specs.Arriving.{covered, taken, book_after_arrival, book_after_skip, IsAfterRefusal, IsDeskAfterRefusal}
use Rattle.dmc_sharded.proofs.NumbersLemmas.{arrival_here, arrival_there, balanced_after_arrival, balanced_after_skip, sent_after_skip}

-- ---- one book and its till: what is missing is issued, and what was made is taken

book_covered : (sent p : ℕ) (t : Holding) (b : Account) → p ≤ max_count → IsBook sent t b → IsBook sent (with_more (p - t.amount) t) (after_issue (p - t.amount) b)
book_covered sent p t b few h = record {
  number = h.number;
  total = omega (arith, h.total);
  few = omega (arith, few, h.few);
  gathered = h.gathered;
  open_tills = h.open_tills;
}

book_taken : (sent p : ℕ) (t : Holding) (b : Account) → IsBook sent t b → IsBook (sent + p) (with_less p (with_more (p - t.amount) t)) (after_issue (p - t.amount) b)
book_taken sent p t b h = record {
  number = h.number;
  total = omega (arith, h.total);
  few = omega (arith, h.few);
  gathered = h.gathered;
  open_tills = h.open_tills;
}

-- ---- a desk

desk_covered : (client : ℕ) (sent : Counts) (s : ℕ) (params : Params) (d : DeskState) → params.delta ≤ max_count → params.rho ≤ max_count
    → IsDesk client sent s d → IsDesk client sent s (covered params d)
desk_covered client sent s params d delta rho h = record {
  its_client = h.its_client;
  its_server = h.its_server;
  stamps = (h.stamps.0, book_covered h.stamps.0 1 d.tills.stamps d.side.books.stamps (omega arith) h.stamps.1);
  delta = book_covered sent.delta params.delta d.tills.delta d.side.books.delta delta h.delta;
  rho = book_covered sent.rho params.rho d.tills.rho d.side.books.rho rho h.rho;
}

desk_taken : (client : ℕ) (sent : Counts) (s : ℕ) (params : Params) (d : DeskState) → IsDesk client sent s d → IsDesk client (plus sent (counts_of params)) s (taken params d)
desk_taken client sent s params d h = record {
  its_client = h.its_client;
  its_server = h.its_server;
  stamps = (h.stamps.0 + 1, book_taken h.stamps.0 1 d.tills.stamps d.side.books.stamps h.stamps.1);
  delta = book_taken sent.delta params.delta d.tills.delta d.side.books.delta h.delta;
  rho = book_taken sent.rho params.rho d.tills.rho d.side.books.rho h.rho;
}

-- ---- the desks of all shards, of which one is replaced

desks_set : (P Q : ServerId → DeskState → Type 0) (desks : List DeskState) (s : ServerId) (x : DeskState) → s.0 < length desks
    → ((q : ServerId) → q.0 < length desks → P q (desk_at desks q.0)) → Q s x
    → ((q : ServerId) (d : DeskState) → q.0 < length desks → (s.0 ≡ q.0 → ⊥) → P q d → Q q d)
    → (q : ServerId) → q.0 < length (set desks s.0 x) → Q q (desk_at (set desks s.0 x) q.0)
desks_set P Q desks s x within each its others q inside =
    let q_in : q.0 < length desks = omega (arith, inside, length-set desks s.0 x) in
    elim (eqb_tells s.0 q.0) [
      | inl same ↦
          subst (λ (k : ServerId). Q k (desk_at (set desks s.0 x) k.0)) (same_server s q same.1)
          (rw (get_or-set_same desks s.0 x (new_desk 0 0 0) within) its)
      | inr there ↦
          rw (get_or-set_other desks s.0 q.0 x (new_desk 0 0 0) (λ e. there.1 (sym e)))
          (others q (desk_at desks q.0) q_in there.1 (each q q_in))
    ]

-- ---- the book

-- one desk is replaced
with_desk : (b : BookState) (s : ServerId) → s.0 < length b.desks → IsConsistent b → (x : DeskState) → IsDesk b.client (numbers_at b.tracker s).sent s.0 x
    → IsConsistent (record b { desks = slice_set b.desks s.0 x })
with_desk b s within h x its =
    let desks = length-set b.desks s.0 x in
    record {
      balanced = λ q q_in. h.balanced q (omega (arith, q_in, desks));
      desks = desks_set
          (λ q d. IsDesk b.client (numbers_at b.tracker q).sent q.0 d) (λ q d. IsDesk b.client (numbers_at b.tracker q).sent q.0 d)
          b.desks s x within h.desks its (λ q d q_in apart kept. kept);
      shards = desks ∙ h.shards;
      rho = h.rho;
      delta = h.delta;
      most = h.most;
    }

module _ (b : BookState) (s : ServerId) (params : Params) (within : s.0 < length b.desks) (h : IsConsistent b) where
  inside : s.0 < length b.tracker.shards
  inside = omega (arith, within, h.shards)

  pub consistent_after_arrival : params.rho ≤ params.delta → b.tracker.came.delta + params.delta ≤ b.tracker.most → IsConsistent (book_after_arrival s params b)
  consistent_after_arrival rho most =
      let next = next_params b.tracker s params in
      let tracker = after_arrival s params b.tracker in
      let desks = length-set b.desks s.0 (taken next (desk_at b.desks s.0)) in
      let shards = length-set (map (grown params) b.tracker.shards) s.0 (numbers_at tracker s) in
      record {
        balanced = λ q q_in. balanced_after_arrival b.tracker s params inside q (omega (arith, q_in, desks, h.shards)) (h.balanced q (omega (arith, q_in, desks)));
        desks = desks_set
            (λ q d. IsDesk b.client (numbers_at b.tracker q).sent q.0 d) (λ q d. IsDesk b.client (numbers_at tracker q).sent q.0 d)
            b.desks s (taken next (desk_at b.desks s.0)) within h.desks
            (rw (arrival_here b.tracker s params inside) (desk_taken b.client (numbers_at b.tracker s).sent s.0 next (desk_at b.desks s.0) (h.desks s within)))
            (λ q d q_in apart its. rw (arrival_there b.tracker s params inside q (omega (arith, q_in, h.shards)) apart) its);
        shards = desks ∙ h.shards ∙ sym (length-map b.tracker.shards (grown params)) ∙ sym (length-set (map (grown params) b.tracker.shards) s.0 _);
        rho = omega (arith, rho, h.rho);
        delta = most;
        most = h.most;
      }

  pub consistent_after_refusal : (old new : DeskState) (fault : ArriveFault) → desk_at b.desks s.0 ≡ old → (next_params b.tracker s params).delta ≤ max_count → (next_params b.tracker s params).rho ≤ max_count
      → IsDeskAfterRefusal (next_params b.tracker s params) old new fault → IsConsistent (record b { desks = slice_set b.desks s.0 new })
  consistent_after_refusal old new NoServer at delta rho e = with_desk b s within h new (rw (e, ← at) (h.desks s within))
  consistent_after_refusal old new TrackFull at delta rho e = with_desk b s within h new (rw (e, ← at) (h.desks s within))
  consistent_after_refusal old new (Queue cause) at delta rho e =
      with_desk b s within h new (rw (e, ← at) (desk_covered b.client (numbers_at b.tracker s).sent s.0 (next_params b.tracker s params) (desk_at b.desks s.0) delta rho (h.desks s within)))

-- what a refusal leaves, as it is seen
pub refusal_seen : (b : BookState) (s : ServerId) (params : Params) (old new : DeskState) (fault : ArriveFault) → desk_at b.desks s.0 ≡ old
    → IsDeskAfterRefusal (next_params b.tracker s params) old new fault → IsAfterRefusal s params b (record b { desks = slice_set b.desks s.0 new }) fault
refusal_seen b s params old new NoServer at e = ap (λ (x : List DeskState). record b { desks = x }) (rw (e, ← at) (set-get_or b.desks s.0 (new_desk 0 0 0)))
refusal_seen b s params old new TrackFull at e = ap (λ (x : List DeskState). record b { desks = x }) (rw (e, ← at) (set-get_or b.desks s.0 (new_desk 0 0 0)))
refusal_seen b s params old new (Queue cause) at e = ap (λ (x : DeskState). record b { desks = slice_set b.desks s.0 x }) (rw at e)

-- what an arrival leaves, as it is seen
pub arrival_seen : (b : BookState) (s : ServerId) (params : Params) (old new : DeskState) (tracker : Numbers) → desk_at b.desks s.0 ≡ old
    → new ≡ taken (next_params b.tracker s params) old → tracker ≡ after_arrival s params b.tracker
    → record b { tracker = tracker; desks = slice_set b.desks s.0 new } ≡ book_after_arrival s params b
arrival_seen b s params old new tracker at e f =
    ap (λ (x : DeskState). record b { tracker = tracker; desks = slice_set b.desks s.0 x }) (rw at e)
    ∙ ap (λ (n : Numbers). record b { tracker = n; desks = slice_set b.desks s.0 (taken (next_params b.tracker s params) (desk_at b.desks s.0)) }) f

-- the desk of a shard, as it is seen
pub desk_found : {S : Type 0} (items : List (ShardDesk S)) (i : ℕ) (x : ShardDesk S) → i < length items → x ≡ get_or items i x
    → desk_at (map desk_state items) i ≡ desk_state x
desk_found {S} items i x within is =
    let f : ShardDesk S → DeskState = desk_state in
    get_or-map f items i x (new_desk 0 0 0) within ∙ ap f (sym is)

-- a stamp that is not too much
pub next_fits : (n : Numbers) (s : ServerId) (params : Params) → s.0 < length n.shards → (IsFullAt n s params → ⊥) → (next_params n s params).delta ≤ max_count
next_fits n s params within fits =
    elim (cases_lt max_count (next_params n s params).delta) [
      | inl past ↦ absurd (fits (record { within = within; past = inr past }))
      | inr few ↦ few
    ]

-- ---- a skip

module _ (b : BookState) (s : ServerId) where
  skipped : s.0 < length b.tracker.shards → IsConsistent b → IsConsistent (book_after_skip s b)
  skipped inside h = record {
    balanced = λ q q_in. balanced_after_skip b.tracker s inside q (h.balanced q q_in);
    desks = λ q q_in. rw (sent_after_skip b.tracker s inside q) (h.desks q q_in);
    shards = h.shards ∙ sym (length-set b.tracker.shards s.0 _);
    rho = h.rho;
    delta = h.delta;
    most = h.most;
  }

  pub consistent_after_skip : {X E : Type 0} (r : Result X E) (new : Numbers) → OnOk r (new ≡ after_skip s b.tracker) → OnErr r (new ≡ b.tracker)
      → (IsOk r → s.0 < length b.tracker.shards) → IsConsistent b → IsConsistent (record b { tracker = new })
  consistent_after_skip (Ok x) new after kept inside h = rw after (skipped (inside refl) h)
  consistent_after_skip (Err e) new after kept inside h = rw kept h

-- ---- a response

desk_responded : (client : ℕ) (sent : Counts) (s : ℕ) (phase : PhaseType) (cost : ℕ) (d : DeskState) → IsDesk client sent s d
    → IsDesk client sent s (desk_after_response phase cost d)
desk_responded client sent s phase cost d h = record {
  its_client = h.its_client;
  its_server = h.its_server;
  stamps = h.stamps;
  delta = h.delta;
  rho = h.rho;
}

pub consistent_after_unit : (b : BookState) (unit : UnitValue) → unit.server < length b.desks → IsConsistent b → IsConsistent (book_after_unit unit b)
consistent_after_unit b unit within h =
    let s : ServerId = record { 0 = unit.server } in
    with_desk b s within h (desk_after_response unit.phase unit.cost (desk_at b.desks unit.server))
    (desk_responded b.client (numbers_at b.tracker s).sent unit.server unit.phase unit.cost (desk_at b.desks unit.server) (h.desks s within))

-- the tills of a phase at the desk of a shard, as they are seen
pub held_seen : {S : Type 0} (items : List (ShardDesk S)) (i s : ℕ) (x : ShardDesk S) (given phase : PhaseType) → i ≡ s → i < length items → x ≡ get_or items i x
    → given ≡ phase → tills_in given (desk_state x).side.held ≡ tills_in phase (desk_at (map desk_state items) s).side.held
held_seen items i s x given phase place within is named =
    ap (λ k. tills_in k (desk_state x).side.held) named
    ∙ ap (λ (d : DeskState). tills_in phase d.side.held) (sym (desk_found items i x within is))
    ∙ ap (λ n. tills_in phase (desk_at (map desk_state items) n).side.held) place

-- a response at that desk, as it is seen
pub unit_seen : {S : Type 0} (items : List (ShardDesk S)) (i s : ℕ) (old new : ShardDesk S) (phase : PhaseType) (cost : ℕ) → i ≡ s → i < length items
    → old ≡ get_or items i old → desk_state new ≡ desk_after_response phase cost (desk_state old)
    → map desk_state (set items i new) ≡ set (map desk_state items) s (desk_after_response phase cost (desk_at (map desk_state items) s))
unit_seen {S} items i s old new phase cost place within is e =
    let f : ShardDesk S → DeskState = desk_state in
    rw (← place) (map-set f items i new ∙ ap (λ x. set (map f items) i x) (e ∙ ap (desk_after_response phase cost) (sym (desk_found items i old within is))))
