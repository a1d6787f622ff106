-- What the rules make of a client that matches one that is held.
use Rattle.std.proofs.Common.{◌≡◌, ℕ, ◌+◌, ◌<◌, ◌≤◌, Bool, true, false, nat_lt, List, [], ◌∷◌, ◌++◌, length, nat_le, ◌==◌, refl, sym, ap, ◌∙◌, arith, inl, inr, Ok, Err}
use Rattle.std.specs.Prelude.{Result, IsErrOf, ◌↔◌, ◌||◌, ⊤}
use Rattle.std.specs.List.{list_any}
use Rattle.dmc_types.specs.Limits.{max_count}
use Rattle.std.proofs.lemmas.Bool.{ltb-true, lt-ltb, false_from_ne_true}
use Rattle.std.proofs.lemmas.List.{length-set}
use Rattle.dmc_types.specs.Values.{Params}
use Rattle.dmc_types.specs.declared.ids.ServerId.{ServerId}
use Rattle.dmc_types.specs.declared.ids.Token.{Token}
use Rattle.dmc_types.specs.declared.config.Counting.{Counting}
use Rattle.dmc_types.specs.declared.config.Counting.TheVariants.{All, Others}
use Rattle.dmc_types.specs.declared.config.PhaseType.{PhaseType}
use Rattle.dmc_tracker.specs.declared.event.TrackerEvent.{TrackerEvent}
use Rattle.dmc_tracker.specs.declared.event.TrackerEvent.TheVariants as entries
use Rattle.dmc_tracker.specs.TrackerList.{demanded, completions, sent, IsStampFull, IsResponseFull}
use Rattle.dmc_tracker.specs.Numbers.{Numbers, RepresentsEvents, Keeps}
use Rattle.dmc_core.specs.declared.event.CoreReply.TheVariants.{Stamped, Counted}
use Rattle.dmc_core.specs.declared.event.CoreFault.TheVariants.{FlightFull, TrackFull, NoGrant, Memory}
use Rattle.dmc_core.specs.Faults.{fault_of}
use Rattle.dmc_tracker.specs.declared.tracker.TrackFault.{TrackFault}
use Rattle.dmc_tracker.specs.declared.tracker.TrackFault.TheVariants as faults
use Rattle.dmc_core.specs.Run.{Pair, Client, pair_at, with_pair, with_flight, grants, with_grants, without_first, max_completions, max_in_flight}
use Rattle.dmc_core.specs.Events.{is_stamp_full, after_stamp, stamp, after_response, response}
use Rattle.dmc_core.specs.Core.{Held, Room, Matches, ClientFollows}

-- ---- Stamp

module _ (s : ServerId) (cost : ℕ) (list : List TrackerEvent) where
  stamp_is_full : (k : Counting) → IsStampFull k max_completions s cost list → is_stamp_full k s cost list ≡ true
  stamp_is_full All wide = lt-ltb _ _ wide
  stamp_is_full Others (inl wide) = let t = lt-ltb _ _ wide in rw t refl
  stamp_is_full Others (inr past) = by (nat_lt max_count (demanded Others s cost list).delta)
    where
      by : (b : Bool) → (b || nat_lt max_completions ((sent s list).delta + (demanded Others s cost list).delta)) ≡ true
      by true = refl
      by false = lt-ltb _ _ past

  stamp_not_full : (k : Counting) → (IsStampFull k max_completions s cost list → ⊥) → is_stamp_full k s cost list ≡ false
  stamp_not_full All unfull = false_from_ne_true _ (λ e. unfull (ltb-true _ _ e))
  stamp_not_full Others unfull =
      let a : nat_lt max_count (demanded Others s cost list).delta ≡ false = false_from_ne_true _ (λ e. unfull (inl (ltb-true _ _ e))) in
      let b : nat_lt max_completions ((sent s list).delta + (demanded Others s cost list).delta) ≡ false = false_from_ne_true _ (λ e. unfull (inr (ltb-true _ _ e))) in
      rw (a, b) refl

module _ (counting : Counting) (h : Held) (c : Client) (s : ServerId) (m : Matches counting h c) where
  room_too : nat_le max_in_flight (length (pair_at s h.pairs).flight) ≡ false → nat_le max_in_flight (length (pair_at s c.pairs).flight) ≡ false
  room_too room = rw (← m.pairs) room

  some_too : (phase : PhaseType) (cost : ℕ) → list_any (λ k. k == cost) (grants phase (pair_at s h.pairs)) ≡ true → list_any (λ k. k == cost) (grants phase (pair_at s c.pairs)) ≡ true
  some_too phase cost some = rw (← m.pairs) some

  -- one entry more in the tracker list, and another pair at s
  matches_more : (tracker : Numbers) (e : TrackerEvent) (f : Pair → Pair) (pairs : List Pair) (rooms : List Room) → RepresentsEvents tracker (c.list ++ e ∷ []) → Keeps h.tracker tracker
      → pairs ≡ with_pair s (f (pair_at s h.pairs)) h.pairs
      → Matches counting (record { id = h.id; tracker = tracker; pairs = pairs; rooms = rooms }) (record c { list = c.list ++ e ∷ []; pairs = with_pair s (f (pair_at s c.pairs)) c.pairs })
  matches_more tracker e f pairs rooms represents kept pairs_is = record {
    id = m.id;
    pairs = pairs_is ∙ ap (λ ps. with_pair s (f (pair_at s ps)) ps) m.pairs;
    tracker = represents;
    form = kept.counting ∙ m.form;
    most = kept.most ∙ m.most;
    servers = kept.servers ∙ m.servers ∙ sym (ap length pairs_is ∙ length-set h.pairs _ _);
  }

-- the tracker's test of a stamp passed
unfull : (h : Held) (s : ServerId) (cost : ℕ) (tested : Result ⊤ TrackFault) → tested ≡ Ok tt → s.0 < length h.pairs
    → ((events : List TrackerEvent) → RepresentsEvents h.tracker events → (IsErrOf tested faults.TrackFull ↔ ((s.0 < length h.tracker.servers) × IsStampFull h.tracker.counting h.tracker.most s cost events)))
    → (counting : Counting) (c : Client) → Matches counting h c → IsStampFull h.tracker.counting h.tracker.most s cost c.list → ⊥
unfull h s cost tested tested_is within full counting c m f = let e = (full c.list m.tracker).1 (rw m.servers within, f) in cc

module _ (T : Type 0) (h : Held) (s : ServerId) (token : Token) (cost : ℕ) (rooms : List Room) where
  pub stamp-flight_full : nat_le max_in_flight (length (pair_at s h.pairs).flight) ≡ true → ClientFollows {T = T} (λ counting c. stamp counting s token cost c) h (record h { rooms = rooms }) (Err FlightFull)
  stamp-flight_full full = (refl, λ counting c m. rw (← m.pairs, full) refl)

  module _ (room : nat_le max_in_flight (length (pair_at s h.pairs).flight) ≡ false) where
    track_full : (counting : Counting) (c : Client) → Matches counting h c
        → IsStampFull h.tracker.counting h.tracker.most s cost c.list → stamp {T = T} counting s token cost c ≡ Err TrackFull
    track_full counting c m full = rw (room_too counting h c s m room, stamp_is_full s cost c.list counting (rw (m.form, m.most) at full)) refl

    ok : (counting : Counting) (c : Client) → Matches counting h c → (IsStampFull h.tracker.counting h.tracker.most s cost c.list → ⊥)
        → stamp {T = T} counting s token cost c ≡ Ok (after_stamp s (record { token = token; params = demanded counting s cost c.list }) c, Stamped (demanded counting s cost c.list))
    ok counting c m unfull = rw (room_too counting h c s m room, stamp_not_full s cost c.list counting (λ full. unfull (rw (m.form, m.most) full))) refl

    -- the tracker's test refuses
    pub stamp-refused : (fault : TrackFault) (tested : Result ⊤ TrackFault) → tested ≡ Err fault → s.0 < length h.pairs
        → (IsErrOf tested faults.NoServer ↔ (length h.tracker.servers ≤ s.0))
        → ((events : List TrackerEvent) → RepresentsEvents h.tracker events → (IsErrOf tested faults.TrackFull ↔ ((s.0 < length h.tracker.servers) × IsStampFull h.tracker.counting h.tracker.most s cost events)))
        → ClientFollows {T = T} (λ counting c. stamp counting s token cost c) h (record h { rooms = rooms }) (Err (fault_of fault))
    stamp-refused faults.NoServer tested e within no_server full = (refl, λ counting c m. absurd (omega (arith, no_server.0 e, m.servers, within)))
    stamp-refused faults.TrackFull tested e within no_server full = (refl, λ counting c m. track_full counting c m ((full c.list m.tracker).0 e).1)

    module _ (tested : Result ⊤ TrackFault) (tested_is : tested ≡ Ok tt) (within : s.0 < length h.pairs)
        (full : (events : List TrackerEvent) → RepresentsEvents h.tracker events → (IsErrOf tested faults.TrackFull ↔ ((s.0 < length h.tracker.servers) × IsStampFull h.tracker.counting h.tracker.most s cost events))) where
      pub stamp-memory : ClientFollows {T = T} (λ counting c. stamp counting s token cost c) h (record h { rooms = rooms }) (Err Memory)
      stamp-memory = (refl, λ counting c m. rw (ok counting c m (unfull h s cost tested tested_is within full counting c m)) refl)

      pub stamp-sent : (params : Params) (tracker : Numbers) (pairs : List Pair)
          → ((events : List TrackerEvent) → RepresentsEvents h.tracker events → (params ≡ demanded h.tracker.counting s cost events) × RepresentsEvents tracker (events ++ entries.Stamp s params ∷ []))
          → Keeps h.tracker tracker
          → pairs ≡ with_pair s (with_flight ((pair_at s h.pairs).flight ++ record { token = token; params = params } ∷ []) (pair_at s h.pairs)) h.pairs
          → ClientFollows {T = T} (λ counting c. stamp counting s token cost c) h (record { id = h.id; tracker = tracker; pairs = pairs; rooms = rooms }) (Ok (Stamped params))
      stamp-sent params tracker pairs represents kept pairs_is counting c m =
          let after = represents c.list m.tracker in
          let demands : params ≡ demanded counting s cost c.list = rw (← m.form) after.0 in
          record {
            next = after_stamp s (record { token = token; params = params }) c;
            ruled_is = ok counting c m (unfull h s cost tested tested_is within full counting c m) ∙ rw demands refl;
            matches = matches_more counting h c s m tracker (entries.Stamp s params) (λ pair. with_flight (pair.flight ++ record { token = token; params = params } ∷ []) pair) pairs rooms after.1 kept pairs_is;
          }

-- ---- Respond

module _ (T : Type 0) (h : Held) (s : ServerId) (phase : PhaseType) (cost : ℕ) (rooms : List Room) where
  pub response-none : list_any (λ k. k == cost) (grants phase (pair_at s h.pairs)) ≡ false → ClientFollows {T = T} (λ counting c. response s phase cost c) h (record h { rooms = rooms }) (Err NoGrant)
  response-none none = (refl, λ counting c m. rw (← m.pairs, none) refl)

  module _ (some : list_any (λ k. k == cost) (grants phase (pair_at s h.pairs)) ≡ true) where
    pub response-refused : (fault : TrackFault) (tested : Result ⊤ TrackFault) → tested ≡ Err fault → s.0 < length h.pairs
        → (IsErrOf tested faults.NoServer ↔ (length h.tracker.servers ≤ s.0))
        → ((events : List TrackerEvent) → RepresentsEvents h.tracker events → (IsErrOf tested faults.TrackFull ↔ ((s.0 < length h.tracker.servers) × IsResponseFull h.tracker.most cost events)))
        → ClientFollows {T = T} (λ counting c. response s phase cost c) h (record h { rooms = rooms }) (Err (fault_of fault))
    response-refused faults.NoServer tested e within no_server full = (refl, λ counting c m. absurd (omega (arith, no_server.0 e, m.servers, within)))
    response-refused faults.TrackFull tested e within no_server full = (
      refl,
      λ counting c m.
          let past = ((full c.list m.tracker).0 e).1 in
          let full : nat_lt max_completions ((completions c.list).delta + cost) ≡ true = lt-ltb _ _ (rw m.most at past) in
          rw (some_too counting h c s m phase cost some, full) refl,
    )

    pub response-counted : (tested : Result ⊤ TrackFault) → tested ≡ Ok tt → s.0 < length h.pairs
        → ((events : List TrackerEvent) → RepresentsEvents h.tracker events → (IsErrOf tested faults.TrackFull ↔ ((s.0 < length h.tracker.servers) × IsResponseFull h.tracker.most cost events)))
        → (tracker : Numbers) (pairs : List Pair)
        → ((events : List TrackerEvent) → RepresentsEvents h.tracker events → RepresentsEvents tracker (events ++ entries.Response s phase cost ∷ []))
        → Keeps h.tracker tracker
        → pairs ≡ with_pair s (with_grants phase (without_first cost (grants phase (pair_at s h.pairs))) (pair_at s h.pairs)) h.pairs
        → ClientFollows {T = T} (λ counting c. response s phase cost c) h (record { id = h.id; tracker = tracker; pairs = pairs; rooms = rooms }) (Ok Counted)
    response-counted tested tested_is within full tracker pairs represents kept pairs_is counting c m =
        let below : nat_lt max_completions ((completions c.list).delta + cost) ≡ false = false_from_ne_true _ (λ e. let f = (full c.list m.tracker).1 (rw m.servers within, rw m.most (ltb-true _ _ e)) in cc) in
        record {
          next = after_response s phase cost c;
          ruled_is = rw (some_too counting h c s m phase cost some, below) refl;
          matches = matches_more counting h c s m tracker (entries.Response s phase cost) (λ pair. with_grants phase (without_first cost (grants phase pair)) pair) pairs rooms (represents c.list m.tracker) kept pairs_is;
        }
