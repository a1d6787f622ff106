-- What an event makes of a client of a cluster run: its arrivals at a server follow its stamps, and its list is tracked.
use Rattle.std.proofs.Common.{◌≡◌, ℕ, zero, suc, ◌<◌, Bool, true, false, true≢false, cond, ◌==◌, List, [], ◌∷◌, ◌++◌, map, length, set, get_or, slice_get, Some, refl, sym, ap, ◌∙◌, subst, arith, append_assoc}
use Rattle.std.specs.Prelude.{Ok, drop, if◌then◌else◌}
use Rattle.std.specs.List.{find}
use Rattle.std.proofs.lemmas.List.{length-set, get_or-set_same, get_or-set_other, append-nil, map-append}
use Rattle.std.proofs.lemmas.Bool.{eqb-true, eqb-false, eq-eqb}
use Rattle.dmc_types.specs.Values.{Params}
use Rattle.dmc_types.specs.declared.ids.ClientId.{ClientId}
use Rattle.dmc_types.specs.declared.ids.ServerId.{ServerId}
use Rattle.dmc_types.specs.declared.config.Counting.{Counting}
use Rattle.dmc_types.specs.declared.config.PhaseType.{PhaseType}
use Rattle.dmc_types.specs.declared.config.PhaseType.TheVariants.{Reservation, Priority}
use Rattle.dmc_types.specs.declared.command.Command.TheVariants as commands
use Rattle.dmc_tag.specs.State.{is_client}
use Rattle.dmc_tag.specs.declared.event.Event.{Event}
use Rattle.dmc_tag.specs.declared.reply.Tags.{Tags}
use Rattle.dmc_tag.specs.declared.reply.Reply.{Reply}
use Rattle.dmc_tag.specs.declared.reply.Reply.TheVariants as replies
use Rattle.dmc_history_laws.specs.Bounds.{Arrival, arrivals}
use Rattle.dmc_tracker.specs.declared.event.TrackerEvent.{TrackerEvent}
use Rattle.dmc_tracker.specs.declared.event.TrackerEvent.TheVariants as entries
use Rattle.dmc_tracker.specs.TrackerList.{demanded, skips, IsTracked}
use Rattle.dmc_tracker.proofs.ForCallers.{IsTracked-stamp, IsTracked-response, skips-stamp, skips-response}
use Rattle.dmc_core.specs.declared.event.Message.{Message}
use Rattle.dmc_core.specs.declared.event.CoreReply.TheVariants.{Served}
use Rattle.dmc_core.specs.Run.{Pair, Client, no_pair, pair_at, with_pair, with_flight, grants, with_grants, without_first, change_first}
use Rattle.dmc_core.specs.Events.{after_stamp, after_arrival, client_after_arrival, after_grant, after_response}
use Rattle.dmc_core_laws.specs.Histories.{is_server, recorded_events, entry}
use Rattle.dmc_core_laws.specs.Bounds.{stamp_in, stamps_to}

-- ---- the first that passes a test, after a change

-- the one that is found after a change is the changed one, or it was found before
pub found_changed : {X : Type 0} (p q : X → Bool) (f : X → X) (xs : List X) (x' : X) → ((x : X) → p x ≡ true → q x ≡ true) → ((x : X) → p x ≡ true → q (f x) ≡ true) → ((x : X) → q x ≡ true → p x ≡ true)
    → find q (change_first p f xs) ≡ Some x' → (x : X) × (find q xs ≡ Some x) × (x' ≡ f x)
found_changed {X} p q f [] x' pq keeps qp e = cc
found_changed {X} p q f (x ∷ xs) x' pq keeps qp e = by (p x) refl (q x) refl e (found_changed p q f xs x' pq keeps qp)
  where
    by : (b : Bool) → p x ≡ b → (d : Bool) → q x ≡ d → find q (cond b (f x ∷ xs) (x ∷ change_first p f xs)) ≡ Some x'
        → (find q (change_first p f xs) ≡ Some x' → (y : X) × (find q xs ≡ Some y) × (x' ≡ f y)) → (y : X) × (cond d (Some x) (find q xs) ≡ Some y) × (x' ≡ f y)
    by true here true d e more = let same = keeps x here in let is = rw same at e in (x, refl, cc)
    by true here false d e more = absurd (true≢false (sym (pq x here) ∙ d))
    by false there true d e more = absurd (true≢false (sym (qp x d) ∙ there))
    by false there false d e more = more (rw d at e)

-- a change of others changes nothing that is found
pub found_same : {X : Type 0} (p q : X → Bool) (f : X → X) (xs : List X) → ((x : X) → p x ≡ true → q x ≡ false) → ((x : X) → p x ≡ true → q (f x) ≡ false) → find q (change_first p f xs) ≡ find q xs
found_same p q f [] others stay = refl
found_same p q f (x ∷ xs) others stay = by (p x) refl (found_same p q f xs others stay)
  where
    by : (b : Bool) → p x ≡ b → find q (change_first p f xs) ≡ find q xs → find q (cond b (f x ∷ xs) (x ∷ change_first p f xs)) ≡ cond (q x) (Some x) (find q xs)
    by true here more = let a = others x here in let b = stay x here in rw (a, b) refl
    by false there more = ap (cond (q x) (Some x)) more

-- ---- one pair of a client

flight_kept : (pairs : List Pair) (i j : ℕ) (y : Pair) → y.flight ≡ (get_or pairs i no_pair).flight → (get_or (set pairs i y) j no_pair).flight ≡ (get_or pairs j no_pair).flight
flight_kept [] i j y e = refl
flight_kept (p ∷ pairs) zero zero y e = e
flight_kept (p ∷ pairs) zero (suc j) y e = refl
flight_kept (p ∷ pairs) (suc i) zero y e = refl
flight_kept (p ∷ pairs) (suc i) (suc j) y e = flight_kept pairs i j y e

grants_leave_flight : (phase : PhaseType) (n : List ℕ) (pair : Pair) → (with_grants phase n pair).flight ≡ pair.flight
grants_leave_flight Reservation n pair = refl
grants_leave_flight Priority n pair = refl

-- ---- one more entry of a tracker list

stamps_push : (s : ServerId) (xs : List TrackerEvent) (e : TrackerEvent) → stamps_to s (xs ++ e ∷ []) ≡ stamps_to s xs ++ stamp_in s e
stamps_push s [] e = append-nil (stamp_in s e)
stamps_push s (x ∷ xs) e = ap (λ ps. stamp_in s x ++ ps) (stamps_push s xs e) ∙ sym (append_assoc (stamp_in s x) (stamps_to s xs) (stamp_in s e))

-- ---- the arrivals and the messages in flight are the stamps

abbrev pub params_of : List Arrival → List Params
params_of xs = map (λ a. a.params) xs

abbrev params_in : List Message → List Params
params_in xs = map (λ m. m.params) xs

params_front : (m : Message) (ms : List Message) → slice_get ms 0 ≡ Some m → params_in ms ≡ m.params ∷ params_in (drop 1 ms)
params_front m [] e = cc
params_front m (x ∷ ms) e = let same : x ≡ m = cc in ap (λ (y : Message). y.params ∷ params_in ms) same

-- the tracker list is tracked and has no skip of s, and the arrivals at s so far, with these params, follow its stamps
pub record IsFollowed (counting : Counting) (s : ServerId) (arrived : List Params) (c : Client) : Type 0 where
  pub tracked : IsTracked counting c.list
  pub unskipped : skips s c.list ≡ 0
  pub paired : s.0 < length c.pairs
  pub stamps : arrived ++ params_in (pair_at s c.pairs).flight ≡ stamps_to s c.list

module _ (counting : Counting) (s : ServerId) (arrived : List Params) (c : Client) (f : IsFollowed counting s arrived c) where
  abbrev flight : List Message
  flight = (pair_at s c.pairs).flight

  paired_after : (q : ServerId) (y : Pair) → s.0 < length (with_pair q y c.pairs)
  paired_after q y = let e = length-set c.pairs q.0 y in let w = f.paired in omega arith

  -- the pair at q with a message more, and without its first
  abbrev with_message : ServerId → Message → Pair
  with_message q m = with_flight ((pair_at q c.pairs).flight ++ m ∷ []) (pair_at q c.pairs)

  abbrev without_oldest : ServerId → Pair
  without_oldest q = with_flight (drop 1 (pair_at q c.pairs).flight) (pair_at q c.pairs)

  -- a message more, by a stamp to q
  pub stamp_follows : (q : ServerId) (m : Message) (cost : ℕ) → m.params ≡ demanded counting q cost c.list → IsFollowed counting s arrived (after_stamp q m c)
  stamp_follows q m cost due = record {
    tracked = IsTracked-stamp counting c.list q cost m.params due f.tracked;
    unskipped = skips-stamp s c.list q m.params ∙ f.unskipped;
    paired = paired_after q _;
    stamps = by (q.0 == s.0) refl ∙ sym (stamps_push s c.list (entries.Stamp q m.params));
  }
    where
      by : (b : Bool) → (q.0 == s.0) ≡ b → arrived ++ params_in (pair_at s (with_pair q (with_message q m) c.pairs)).flight ≡ stamps_to s c.list ++ (if q.0 == s.0 then m.params ∷ [] else [])
      by true e =
          let place : q.0 ≡ s.0 = eqb-true q.0 s.0 e in
          let here : get_or (set c.pairs q.0 (with_message q m)) s.0 no_pair ≡ with_message q m = rw (← place) (get_or-set_same c.pairs q.0 (with_message q m) no_pair (rw place f.paired)) in
          let old : (pair_at q c.pairs).flight ≡ flight = ap (λ i. (get_or c.pairs i no_pair).flight) place in
          rw e (ap (λ (x : Pair). arrived ++ params_in x.flight) here
          ∙ ap (λ (ms : List Message). arrived ++ params_in (ms ++ m ∷ [])) old
          ∙ ap (λ ps. arrived ++ ps) (map-append (λ (n : Message). n.params) flight (m ∷ []))
          ∙ sym (append_assoc arrived (params_in flight) (m.params ∷ []))
          ∙ ap (λ ps. ps ++ m.params ∷ []) f.stamps)
      by false e =
          rw e (ap (λ (x : Pair). arrived ++ params_in x.flight) (get_or-set_other c.pairs q.0 s.0 (with_message q m) no_pair (λ same. eqb-false q.0 s.0 e (sym same)))
          ∙ f.stamps ∙ sym (append-nil (stamps_to s c.list)))

  -- a change of the grants at q
  regranted : (q : ServerId) (phase : PhaseType) (n : List ℕ) → arrived ++ params_in (pair_at s (with_pair q (with_grants phase n (pair_at q c.pairs)) c.pairs)).flight ≡ stamps_to s c.list
  regranted q phase n = ap (λ (ms : List Message). arrived ++ params_in ms) (flight_kept c.pairs q.0 s.0 (with_grants phase n (pair_at q c.pairs)) (grants_leave_flight phase n (pair_at q c.pairs))) ∙ f.stamps

  pub grant_follows : (q : ServerId) (phase : PhaseType) (cost : ℕ) → IsFollowed counting s arrived (after_grant q phase cost c)
  grant_follows q phase cost = record { tracked = f.tracked; unskipped = f.unskipped; paired = paired_after q _; stamps = regranted q phase (grants phase (pair_at q c.pairs) ++ cost ∷ []) }

  pub response_follows : (q : ServerId) (phase : PhaseType) (cost : ℕ) → IsFollowed counting s arrived (after_response q phase cost c)
  response_follows q phase cost = record {
    tracked = IsTracked-response counting c.list q phase cost f.tracked;
    unskipped = skips-response s c.list q phase cost ∙ f.unskipped;
    paired = paired_after q _;
    stamps = regranted q phase (without_first cost (grants phase (pair_at q c.pairs))) ∙ sym (stamps_push s c.list (entries.Response q phase cost) ∙ append-nil (stamps_to s c.list));
  }

  -- a reply that is no acceptance
  stays : {T : Type 0} (q : ServerId) (reply : Reply T) → ((pair : Pair) → after_arrival reply pair ≡ pair) → IsFollowed counting s arrived (client_after_arrival q reply c)
  stays q reply same = record {
    tracked = f.tracked;
    unskipped = f.unskipped;
    paired = paired_after q _;
    stamps = ap (λ (ms : List Message). arrived ++ params_in ms) (flight_kept c.pairs q.0 s.0 (after_arrival reply (pair_at q c.pairs)) (ap (λ (x : Pair). x.flight) (same (pair_at q c.pairs)))) ∙ f.stamps;
  }

  -- an arrival at q
  module _ {T : Type 0} (id : ClientId) (q : ServerId) (m : Message) (at : ℕ) (first : slice_get (pair_at q c.pairs).flight 0 ≡ Some m) where
    abbrev reported_of : Reply T → List (Event T)
    reported_of reply = recorded_events (is_server s q) (Some (commands.Add id m.token m.params at)) (Ok (Served reply))

    abbrev Follows : Reply T → Type 0
    Follows reply = IsFollowed counting s (arrived ++ params_of (arrivals id (reported_of reply))) (client_after_arrival q reply c)

    -- an add that is not accepted is no arrival
    unaccepted : (reply : Reply T) → ((pair : Pair) → after_arrival reply pair ≡ pair) → arrivals id (entry (commands.Add id m.token m.params at) reply ∷ []) ≡ [] → Follows reply
    unaccepted reply same none = subst (λ ps. IsFollowed counting s ps (client_after_arrival q reply c)) (sym (ap (λ (qs : List Arrival). arrived ++ params_of qs) (by (is_server s q)) ∙ append-nil arrived)) (stays q reply same)
      where
        by : (b : Bool) → arrivals id (recorded_events b (Some (commands.Add id m.token m.params at)) (Ok (Served reply))) ≡ []
        by true = none
        by false = refl

    accepted : (tags : Tags T) → Follows (replies.Tagged tags)
    accepted tags = record { tracked = f.tracked; unskipped = f.unskipped; paired = paired_after q _; stamps = by (q.0 == s.0) refl }
      where
        by : (b : Bool) → (q.0 == s.0) ≡ b → (arrived ++ params_of (arrivals id (recorded_events b (Some (commands.Add id m.token m.params at)) (Ok (Served (replies.Tagged tags)))))) ++ params_in (pair_at s (with_pair q (without_oldest q) c.pairs)).flight ≡ stamps_to s c.list
        by true e =
            let own : is_client id id ≡ true = eq-eqb id.0 id.0 refl in
            let place : q.0 ≡ s.0 = eqb-true q.0 s.0 e in
            let here : get_or (set c.pairs q.0 (without_oldest q)) s.0 no_pair ≡ without_oldest q = rw (← place) (get_or-set_same c.pairs q.0 (without_oldest q) no_pair (rw place f.paired)) in
            let old : (pair_at q c.pairs).flight ≡ flight = ap (λ i. (get_or c.pairs i no_pair).flight) place in
            rw own (ap (λ (x : Pair). (arrived ++ m.params ∷ []) ++ params_in x.flight) here
            ∙ append_assoc arrived (m.params ∷ []) (params_in (without_oldest q).flight)
            ∙ ap (λ ps. arrived ++ ps) (sym (params_front m (pair_at q c.pairs).flight first))
            ∙ ap (λ (ms : List Message). arrived ++ params_in ms) old
            ∙ f.stamps)
        by false e =
            ap (λ ps. ps ++ params_in (pair_at s (with_pair q (without_oldest q) c.pairs)).flight) (append-nil arrived)
            ∙ ap (λ (x : Pair). arrived ++ params_in x.flight) (get_or-set_other c.pairs q.0 s.0 (without_oldest q) no_pair (λ same. eqb-false q.0 s.0 e (sym same)))
            ∙ f.stamps

    pub arrival_follows : (reply : Reply T) → Follows reply
    arrival_follows (replies.Tagged tags) = accepted tags
    arrival_follows replies.Registered = unaccepted replies.Registered (λ pair. refl) refl
    arrival_follows replies.Updated = unaccepted replies.Updated (λ pair. refl) refl
    arrival_follows (replies.Granted client token phase beyond cost) = unaccepted (replies.Granted client token phase beyond cost) (λ pair. refl) refl
    arrival_follows (replies.Later n) = unaccepted (replies.Later n) (λ pair. refl) refl
    arrival_follows replies.Nothing = unaccepted replies.Nothing (λ pair. refl) refl
    arrival_follows (replies.Removed count) = unaccepted (replies.Removed count) (λ pair. refl) refl
    arrival_follows (replies.Cleaned idled erased) = unaccepted (replies.Cleaned idled erased) (λ pair. refl) refl
    arrival_follows (replies.Refused refusal) = unaccepted (replies.Refused refusal) (λ pair. refl) refl
