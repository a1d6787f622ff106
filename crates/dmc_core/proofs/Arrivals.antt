-- What the rules make of an arrival.
use Rattle.std.proofs.Common.{◌≡◌, ℕ, ◌+◌, ◌<◌, ◌≤◌, true, List, [], ◌∷◌, ◌++◌, length, drop, set, slice_get, Option, Some, None, refl, sym, ap, subst, ◌∙◌, Ok, Err, arith}
use Rattle.std.specs.Prelude.{Result, IsOk, if◌then◌else◌}
use Rattle.std.specs.List.{AllByRecursion}
use Rattle.std.specs.Option.{ok_or}
use Rattle.std.proofs.lemmas.List.{length-append, length-map, length-set, set-get_or, get_or-set_same, get_or-set_other}
use Rattle.dmc_types.specs.Values.{Params}
use Rattle.dmc_types.specs.declared.ids.ClientId.{ClientId}
use Rattle.dmc_types.specs.declared.ids.ServerId.{ServerId}
use Rattle.dmc_types.specs.declared.ids.Token.{Token}
use Rattle.dmc_types.specs.declared.config.Counting.{Counting}
use Rattle.dmc_types.specs.declared.refusal.Refusal.{Refusal}
use Rattle.dmc_types.specs.declared.command.Command.TheVariants as commands
use Rattle.dmc_tag.specs.Tag.{Tagging}
use Rattle.dmc_tag.specs.State.{State, PlainClient, is_client, effective}
use Rattle.dmc_tag.specs.Outcome.{◌>>=◌}
use Rattle.dmc_tag.specs.Rules as rules
use Rattle.dmc_tag.specs.Rules.{can_add}
use Rattle.dmc_tag.specs.Step.{step, outcome as step_outcome}
use Rattle.dmc_tag.specs.Steps.{Steps}
use Rattle.dmc_tag.specs.declared.plain.QueuedRequest.{QueuedRequest}
use Rattle.dmc_tag.specs.declared.reply.Tags.{Tags}
use Rattle.dmc_tag.specs.declared.reply.Reply.{Reply}
use Rattle.dmc_tag.specs.declared.reply.Reply.TheVariants as replies
use Rattle.dmc_tag.proofs.Active.{either}
use Rattle.dmc_tag.proofs.Ids.{all_there}
use Rattle.dmc_core.specs.declared.event.Message.{Message}
use Rattle.dmc_core.specs.declared.event.CoreEvent.TheVariants.{Arrive}
use Rattle.dmc_core.specs.declared.event.CoreReply.TheVariants.{Served}
use Rattle.dmc_core.specs.declared.event.CoreFault.{CoreFault}
use Rattle.dmc_core.specs.declared.event.CoreFault.TheVariants as faults
use Rattle.dmc_core.specs.Run.{Pair, Client, no_pair, pair_at, with_pair, with_flight, grants, with_client, with_server}
use Rattle.dmc_core.specs.Events.{after_arrival, client_after_arrival, outcome}
use Rattle.dmc_core.specs.Core.{Held, CoreValue, Matches, HasRoom, AreWaiting, Follows, room_at, is_accepting}
use Rattle.dmc_core.specs.internal.Parts.{place_of}
use Rattle.dmc_core.proofs.DistinctIds.{distinct_after}
use Rattle.dmc_core.proofs.Lists.{set_same, all_set_apart}
use Rattle.dmc_core.proofs.Pairs.{flight_apart}
use Rattle.dmc_core.proofs.Rooms.{HaveRoom, rooms_after_server, rooms_after_both, waiting_mapped, waiting_grown, waiting_apart}
use Rattle.dmc_core.proofs.Runs.{refused, names_refused, found_place, the_client, the_server}

-- the same change of one pair
pub matches_changed : (counting : Counting) (h : Held) (c : Client) (s : ServerId) (f : Pair → Pair) → Matches counting h c
    → Matches counting (record h { pairs = with_pair s (f (pair_at s h.pairs)) h.pairs }) (record c { pairs = with_pair s (f (pair_at s c.pairs)) c.pairs })
matches_changed counting h c s f m = record {
  id = m.id;
  pairs = ap (λ (ps : List Pair). with_pair s (f (pair_at s ps)) ps) m.pairs;
  tracker = m.tracker;
  form = m.form;
  most = m.most;
  servers = m.servers ∙ sym (length-set h.pairs s.0 _);
}

-- a refused message stays in flight
not_tagged : {T : Type 0} (reply : Reply T) → ((tags : Tags T) → reply ≡ replies.Tagged tags → ⊥) → (pair : Pair) → after_arrival reply pair ≡ pair
not_tagged (replies.Tagged tags) other pair = absurd (other tags refl)
not_tagged replies.Registered other pair = refl
not_tagged replies.Updated other pair = refl
not_tagged (replies.Granted client token phase beyond cost) other pair = refl
not_tagged (replies.Later m) other pair = refl
not_tagged replies.Nothing other pair = refl
not_tagged (replies.Removed count) other pair = refl
not_tagged (replies.Cleaned idled erased) other pair = refl
not_tagged (replies.Refused refusal) other pair = refl

-- a queue that wants memory for an add would tag the message
added_accepted : {T : Type 0} (ops : Tagging T) (u : State T) (id : ClientId) (token : Token) (params : Params) (at : ℕ)
    → IsOk (step_outcome ops u (commands.Add id token params at)) → is_accepting (Served ((step ops u (commands.Add id token params at)).1)) ≡ true
added_accepted {T} ops u id token params at h = by (can_add ops u id params (effective u at)) refl h
  where
    by : (r : Result (rules.Addition T) Refusal) → can_add ops u id params (effective u at) ≡ r → IsOk (step_outcome ops u (commands.Add id token params at))
        → is_accepting (Served ((step ops u (commands.Add id token params at)).1)) ≡ true
    by (Ok added) e h = rw e refl
    by (Err refusal) e h = let none = rw e at h in absurd (none_ok none)
      where
        none_ok : IsOk {T = State T × Reply T} (Err refusal) → ⊥
        none_ok h = cc

-- ---- what a message adds to the records

-- a message of this client adds one request to its records, and none to those of another
record Arrives {T : Type 0} (client : ClientId) (old new : List (PlainClient T)) : Type 0 where
  grown : (id : ClientId) (flight flight' waiting : ℕ) → flight' + 1 ≤ flight → AllByRecursion (AreWaiting id flight waiting) old → AllByRecursion (AreWaiting id flight' waiting) new
  apart : (id : ClientId) (flight waiting : ℕ) → (is_client client id ≡ true → ⊥) → AllByRecursion (AreWaiting id flight waiting) old → AllByRecursion (AreWaiting id flight waiting) new

shifted_waits : {T : Type 0} (ops : Tagging T) (shift : Option T) (id : ClientId) (flight waiting : ℕ) (cs : List (PlainClient T)) → AllByRecursion (AreWaiting id flight waiting) cs
    → AllByRecursion (AreWaiting id flight waiting) (rules.shifted_by ops shift cs)
shifted_waits ops None id flight waiting cs z = z
shifted_waits {T} ops (Some amount) id flight waiting cs z = waiting_mapped id flight waiting (rules.shifted_client ops amount)
    (λ c. either (λ (d : PlainClient T). d.id ≡ c.id) c.idle c (rules.less_shares ops amount c) refl refl)
    (λ c. either (λ (d : PlainClient T). length d.requests ≡ length c.requests) c.idle c (rules.less_shares ops amount c) refl (length-map c.requests (rules.less_share ops amount))) cs z

module _ {T : Type 0} (ops : Tagging T) (u : State T) (client : ClientId) (token : Token) (params : Params) (at : ℕ) where
  queued_arrives : (shift : Option T) (request : QueuedRequest T) → Arrives client u.clients (rules.queued ops u shift client request (effective u at)).clients
  queued_arrives shift request = record {
    grown = λ id flight flight' waiting less z. waiting_grown id flight flight' waiting less (λ c. if is_client client c.id then rules.after_arrival request (effective u at) c else c)
        (λ c. either (λ (d : PlainClient T). d.id ≡ c.id) (is_client client c.id) (rules.after_arrival request (effective u at) c) c refl refl)
        (λ c. either (λ (d : PlainClient T). length d.requests ≤ length c.requests + 1) (is_client client c.id) (rules.after_arrival request (effective u at) c) c (one_more c.requests) (omega arith))
        (rules.shifted_by ops shift u.clients) (shifted_waits ops shift id flight waiting u.clients z);
    apart = λ id flight waiting other z. waiting_apart id flight waiting client other (rules.after_arrival request (effective u at)) (λ c. refl)
        (rules.shifted_by ops shift u.clients) (shifted_waits ops shift id flight waiting u.clients z);
  } where
    one_more : (requests : List (QueuedRequest T)) → length (requests ++ request ∷ []) ≤ length requests + 1
    one_more requests = omega (arith, length-append requests (request ∷ []))

  tagged_arrives : (tags : Tags T) → replies.Tagged tags ≡ (step ops u (commands.Add client token params at)).1 → Arrives client u.clients ((step ops u (commands.Add client token params at)).0).clients
  tagged_arrives tags replied = by (can_add ops u client params (effective u at)) refl replied
    where
      by : (r : Result (rules.Addition T) Refusal) → can_add ops u client params (effective u at) ≡ r → replies.Tagged tags ≡ (step ops u (commands.Add client token params at)).1
          → Arrives client u.clients ((step ops u (commands.Add client token params at)).0).clients
      by (Ok added) e h = rw e (queued_arrives added.shift (rules.request_of token params.cost added))
      by (Err refusal) e h = let clash = rw e at h in cc

  -- a refused message adds none
  untagged_same : ((tags : Tags T) → (step ops u (commands.Add client token params at)).1 ≡ replies.Tagged tags → ⊥) → (step ops u (commands.Add client token params at)).0 ≡ u
  untagged_same other = by (can_add ops u client params (effective u at)) refl other
    where
      by : (r : Result (rules.Addition T) Refusal) → can_add ops u client params (effective u at) ≡ r → ((tags : Tags T) → (step ops u (commands.Add client token params at)).1 ≡ replies.Tagged tags → ⊥)
          → (step ops u (commands.Add client token params at)).0 ≡ u
      by (Ok added) e other = absurd (other added.tags (rw e refl))
      by (Err refusal) e other = rw e refl

-- ---- the client whose message it is

first_gone : (flight : List Message) (message : Message) → slice_get flight 0 ≡ Some message → length (drop 1 flight) + 1 ≡ length flight
first_gone [] message e = cc
first_gone (x ∷ flight) message e = omega arith

module _ (s : ServerId) (h : Held) (paired : s.0 < length h.pairs) (message : Message) (oldest : slice_get (pair_at s h.pairs).flight 0 ≡ Some message) where
  -- the oldest of its messages is no longer in flight
  abbrev pub arrived : Held
  arrived = record h { pairs = with_pair s (with_flight (drop 1 (pair_at s h.pairs).flight) (pair_at s h.pairs)) h.pairs }

  pair_there : pair_at s arrived.pairs ≡ with_flight (drop 1 (pair_at s h.pairs).flight) (pair_at s h.pairs)
  pair_there = get_or-set_same h.pairs s.0 _ no_pair paired

  arrived_room : {T : Type 0} (client : ClientId) (u v : State T) → Arrives client u.clients v.clients → HasRoom s h u → HasRoom s arrived v
  arrived_room client u v arrives has =
      let less = first_gone (pair_at s h.pairs).flight message oldest in
      let here : length (pair_at s arrived.pairs).flight ≡ length (drop 1 (pair_at s h.pairs).flight) = ap (λ (p : Pair). length p.flight) pair_there in
      record {
        flight = omega (arith, has.flight, less, here);
        queued = rw here (arrives.grown h.id (length (pair_at s h.pairs).flight) (length (drop 1 (pair_at s h.pairs).flight)) (room_at s h.rooms).waiting (omega (arith, less)) has.queued);
        room = λ phase.
            let same : length (grants phase (pair_at s arrived.pairs)) ≡ length (grants phase (pair_at s h.pairs)) = ap (λ (p : Pair). length (grants phase p)) pair_there ∙ ap length (flight_apart (drop 1 (pair_at s h.pairs).flight) (pair_at s h.pairs) phase) in
            let had = has.room phase in
            omega (arith, same, had);
      }

  arrived_elsewhere : (other : ServerId) → (other.0 ≡ s.0 → ⊥) → (pair_at other arrived.pairs ≡ pair_at other h.pairs) × (room_at other arrived.rooms ≡ room_at other h.rooms)
  arrived_elsewhere other apart = (get_or-set_other h.pairs s.0 other.0 _ no_pair apart, refl)

-- ---- the rules of an arrival

module _ {T Q : Type 0} (ops : Tagging T) (state : Q → State T) (core : CoreValue Q) (id : ClientId) (s : ServerId) (at : ℕ) where
  pub arrival_no_names : (fault : CoreFault) → place_of id s core ≡ Err fault → Follows ops state (Arrive id s at) core core (Err fault)
  arrival_no_names fault e =
      let no = names_refused state core id s fault e in
      refused ops state (Arrive id s at) core fault no.0 (λ run r. no.1 run r (λ client u.
      ok_or (slice_get (pair_at s client.pairs).flight 0) faults.NoFlight
      >>= λ message. Ok (step ops u (commands.Add id message.token message.params at))
      >>= λ (next, reply). Ok (with_client id (client_after_arrival s reply client) (with_server s next run), Served reply)))

  module _ (i : ℕ) (place : place_of id s core ≡ Ok i) (within : s.0 < length core.servers) where
    pub arrival_no_flight : ((h : Held) → slice_get core.clients i ≡ Some h → slice_get (pair_at s h.pairs).flight 0 ≡ None) → Follows ops state (Arrive id s at) core core (Err faults.NoFlight)
    arrival_no_flight none = refused ops state (Arrive id s at) core faults.NoFlight (λ m. cc) (λ run r.
        let both = the_client state core run r id i (found_place id s core i place) in
        let server = the_server state core run r s within in
        let empty : slice_get (pair_at s both.y.pairs).flight 0 ≡ None = rw (← both.related.pairs) (none both.x both.at) in
        rw (both.found, server.found, empty) refl)

    module _ (message : Message) (oldest : (h : Held) → slice_get core.clients i ≡ Some h → slice_get (pair_at s h.pairs).flight 0 ≡ Some message) (q' : Q) where
      pub arrival_memory : ((q : Q) → slice_get core.servers s.0 ≡ Some q → Steps ops (state q) (state q') (commands.Add id message.token message.params at) None)
          → Follows ops state (Arrive id s at) core (record core { servers = set core.servers s.0 q' }) (Err faults.Memory)
      arrival_memory steps = (
        refl,
        λ run r.
            let both = the_client state core run r id i (found_place id s core i place) in
            let server = the_server state core run r s within in
            let first : slice_get (pair_at s both.y.pairs).flight 0 ≡ Some message = rw (← both.related.pairs) (oldest both.x both.at) in
            let stays = steps server.x server.at in (
              rw (both.found, server.found, first) (added_accepted ops (state server.x) id message.token message.params at stays.1),
              record {
                servers = sym (set_same run.servers s.0 (state server.x) server.found) ∙ server.put q' (state server.x) stays.2;
                distinct = r.distinct;
                clients = r.clients;
                rooms = rooms_after_server state core.servers core.clients s q' (rw stays.2 (r.rooms s server.x server.at)) r.rooms;
              },
            ),
      )

      module _ (reply : Reply T) (steps : (q : Q) → slice_get core.servers s.0 ≡ Some q → Steps ops (state q) (state q') (commands.Add id message.token message.params at) (Some reply)) where
        -- the client has what the reply leaves of it
        arrival_served : (hs : List Held)
            → ((h : Held) → slice_get core.clients i ≡ Some h → hs ≡ set core.clients i (record h { pairs = with_pair s (after_arrival reply (pair_at s h.pairs)) h.pairs }))
            → ((h : Held) (q : Q) → slice_get core.clients i ≡ Some h → slice_get core.servers s.0 ≡ Some q → HaveRoom state core.servers core.clients → HaveRoom state (set core.servers s.0 q') hs)
            → Follows ops state (Arrive id s at) core (record { servers = set core.servers s.0 q'; clients = hs }) (Ok (Served reply))
        arrival_served hs hs_is roomy = λ run r.
            let both = the_client state core run r id i (found_place id s core i place) in
            let server = the_server state core run r s within in
            let first : slice_get (pair_at s both.y.pairs).flight 0 ≡ Some message = rw (← both.related.pairs) (oldest both.x both.at) in
            let stepped = steps server.x server.at in
            let next = (step ops (state server.x) (commands.Add id message.token message.params at)).0 in
            let replied : reply ≡ (step ops (state server.x) (commands.Add id message.token message.params at)).1 = ap (λ answer. answer.1) stepped in
            let whole : outcome ops run (Arrive id s at) ≡ Ok (with_client id (client_after_arrival s reply both.y) (with_server s next run), Served reply) =
            rw (both.found, server.found, first, ← replied) refl in
            let rooms = roomy both.x server.x both.at server.at r.rooms in
            rw whole (
              refl,
              record {
                servers = server.put q' next (ap (λ answer. answer.0) stepped);
                distinct = distinct_after ops run.servers s.0 (state server.x) (commands.Add id message.token message.params at) server.found r.distinct;
                clients = rw (hs_is both.x both.at) (both.put _ (λ old. client_after_arrival s reply both.y) (matches_changed run.counting both.x both.y s (after_arrival reply) both.related));
                rooms = rooms;
              },
            )

        -- a tagged message is the client's no longer; the other clients have other ids
        pub arrival_tagged : (tags : Tags T) → reply ≡ replies.Tagged tags → ((h : Held) → slice_get core.clients i ≡ Some h → s.0 < length h.pairs)
            → ((j : ℕ) (y : Held) → slice_get core.clients j ≡ Some y → (j ≡ i → ⊥) → is_client id y.id ≡ true → ⊥)
            → (hs : List Held) → ((h : Held) → slice_get core.clients i ≡ Some h → hs ≡ set core.clients i (record h { pairs = with_pair s (with_flight (drop 1 (pair_at s h.pairs).flight) (pair_at s h.pairs)) h.pairs }))
            → Follows ops state (Arrive id s at) core (record { servers = set core.servers s.0 q'; clients = hs }) (Ok (Served reply))
        arrival_tagged tags tagged paired apart hs hs_is = arrival_served hs (λ h at_i. rw tagged (hs_is h at_i)) (λ h q at_i there rooms.
            let stepped = steps q there in
            let said : replies.Tagged tags ≡ (step ops (state q) (commands.Add id message.token message.params at)).1 = sym tagged ∙ ap (λ answer. answer.1) stepped in
            let arrives : Arrives id (state q).clients (state q').clients =
            subst (λ (v : State T). Arrives id (state q).clients v.clients) (sym (ap (λ answer. answer.0) stepped)) (tagged_arrives ops (state q) id message.token message.params at tags said) in
            let all = rooms s q there in
            let has = all_there (λ (x : Held). HasRoom s x (state q)) core.clients i h all at_i in
            let h' = arrived s h (paired h at_i) message (oldest h at_i) in
            let here = all_set_apart (λ (x : Held). HasRoom s x (state q)) (λ (x : Held). HasRoom s x (state q')) core.clients i h' all
            (λ j y at_j other had. record { flight = had.flight; queued = arrives.apart y.id _ _ (apart j y at_j other) had.queued; room = had.room })
            (arrived_room s h (paired h at_i) message (oldest h at_i) id (state q) (state q') arrives has) in
            rw (hs_is h at_i) (rooms_after_both state core.servers core.clients s q' i h h' at_i within refl (arrived_elsewhere s h (paired h at_i) message (oldest h at_i)) here rooms))

        -- a refused one is
        pub arrival_refused : ((tags : Tags T) → reply ≡ replies.Tagged tags → ⊥) → Follows ops state (Arrive id s at) core (record core { servers = set core.servers s.0 q' }) (Ok (Served reply))
        arrival_refused other = arrival_served core.clients (λ h at_i. sym (
            ap (λ (pair : Pair). set core.clients i (record h { pairs = with_pair s pair h.pairs })) (not_tagged reply other (pair_at s h.pairs))
            ∙ ap (λ (ps : List Pair). set core.clients i (record h { pairs = ps })) (set-get_or h.pairs s.0 no_pair)
            ∙ set_same core.clients i h at_i))
            (λ h q at_i there rooms.
            let stepped = steps q there in
            let same : state q' ≡ state q = ap (λ answer. answer.0) stepped ∙ untagged_same ops (state q) id message.token message.params at (λ tags e. other tags (ap (λ answer. answer.1) stepped ∙ e)) in
            rooms_after_server state core.servers core.clients s q' (rw same (rooms s q there)) rooms)
