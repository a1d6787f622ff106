-- What the rules make of a pull.
use Rattle.std.proofs.Common.{◌≡◌, ℕ, ◌+◌, ◌-◌, ◌<◌, ◌≤◌, Bool, true, false, true≢false, List, [], ◌∷◌, ◌++◌, length, set, slice_get, Option, Some, None, nat_lt, refl, sym, ap, subst, ◌∙◌, Ok, Err, arith}
use Rattle.std.specs.Prelude.{position}
use Rattle.std.specs.Cmp.{IsTotalOrder}
use Rattle.std.specs.List.{AllByRecursion, AllZip}
use Rattle.std.proofs.lemmas.Bool.{lt-ltb}
use Rattle.std.proofs.lemmas.List.{length-append, length-map, length-set, get_or-set_same, get_or-set_other}
use Rattle.std.proofs.lemmas.List.Quantifiers.{position-Some}
use Rattle.std.proofs.lemmas.Option.{get_or_from_slice_get}
use Rattle.dmc_lemmas.proofs.Lists.{all_at}
use Rattle.dmc_types.specs.declared.ids.ClientId.{ClientId}
use Rattle.dmc_types.specs.declared.ids.ServerId.{ServerId}
use Rattle.dmc_types.specs.declared.ids.Token.{Token}
use Rattle.dmc_types.specs.declared.config.Counting.{Counting}
use Rattle.dmc_types.specs.declared.config.PhaseType.{PhaseType}
use Rattle.dmc_types.specs.declared.config.PhaseType.TheVariants as phases
use Rattle.dmc_types.specs.declared.command.Command.TheVariants as commands
use Rattle.dmc_tag.specs.Tag.{Tagging, Fraction, IsExact}
use Rattle.dmc_tag.specs.State.{State, PlainClient, is_client, effective}
use Rattle.dmc_tag.specs.Best.{Found}
use Rattle.dmc_tag.specs.Laws.{Grants, Pulls}
use Rattle.dmc_tag.specs.Rules as rules
use Rattle.dmc_tag.specs.Step.{step}
use Rattle.dmc_tag.specs.Steps.{Steps}
use Rattle.dmc_tag.specs.declared.plain.QueuedRequest.{QueuedRequest}
use Rattle.dmc_tag.specs.declared.reply.Reply.{Reply}
use Rattle.dmc_tag.specs.declared.reply.Reply.TheVariants as replies
use Rattle.dmc_tag.proofs.Active.{granted_id, same_client}
use Rattle.dmc_tag.proofs.Ids.{itself_id, all_there}
use Rattle.dmc_tag.proofs.ForCallers.{pull_grants}
use Rattle.dmc_core.specs.declared.event.CoreEvent.TheVariants.{Pull}
use Rattle.dmc_core.specs.declared.event.CoreReply.TheVariants.{Served}
use Rattle.dmc_core.specs.declared.event.CoreFault.TheVariants as faults
use Rattle.dmc_core.specs.Run.{Pair, Client, Run, no_pair, pair_at, with_pair, grants, with_grants, change_first, with_server, are_grants_full}
use Rattle.dmc_core.specs.Events.{after_grant, after_pull, outcome}
use Rattle.dmc_core.specs.Core.{Held, CoreValue, Matches, HasRoom, AreWaiting, RepresentsRun, Follows, room_at, room_for}
use Rattle.dmc_core.specs.internal.Parts.{IsGranted, full_counts}
use Rattle.dmc_core.proofs.Counts.{are_full}
use Rattle.dmc_core.proofs.Lists.{all_set}
use Rattle.dmc_core.proofs.DistinctIds.{distinct_after}
use Rattle.dmc_core.proofs.Rooms.{HaveRoom, Takes, has_room_state, rooms_after_server, rooms_after_both, waiting_replaced}
use Rattle.dmc_core.proofs.Runs.{refused, no_server, the_client, the_server, no_one_changed}

-- ---- what a grant leaves of the records

reduced_length : {T : Type 0} (ops : Tagging T) (found : Found T) (amount : Option T) → length (rules.after_grant ops found amount).requests ≡ length found.others
reduced_length ops found None = refl
reduced_length ops found (Some amount) = length-map found.others (rules.less_reservation ops amount)

-- a request that is taken out of a list
one_out : {X : Type 0} (xs others front back : List X) (x : X) → xs ≡ front ++ x ∷ back → others ≡ front ++ back → length others + 1 ≡ length xs
one_out xs others front back x whole rest =
    let a = ap length whole ∙ length-append front (x ∷ back) in
    let b = ap length rest ∙ length-append front back in
    omega arith

module _ {T : Type 0} (ops : Tagging T) (t : ℕ) (phase : PhaseType) (tag : QueuedRequest T → Option T) (member : QueuedRequest T → Bool) (old new : State T) (client : ClientId) (token : Token) (cost : ℕ)
    (g : Grants ops t phase tag member old new client token cost) where
  abbrev after : PlainClient T
  after = rules.after_grant ops g.found g.reduction

  fewer : length after.requests + 1 ≡ length g.found.client.requests
  fewer =
      let l = reduced_length ops g.found g.reduction in
      let o = one_out g.found.client.requests g.found.others g.best.own.front g.best.own.back g.found.request g.best.own.whole g.best.own.rest in
      omega arith

  found_waits : (id : ClientId) (flight waiting : ℕ) → AllByRecursion (AreWaiting id flight waiting) old.clients → AreWaiting id flight waiting g.found.client
  found_waits id flight waiting z = all_at (AreWaiting id flight waiting) g.best.front g.found.client g.best.back (subst (AllByRecursion (AreWaiting id flight waiting)) g.best.whole z)

  named : (id : ClientId) → is_client id after.id ≡ true → is_client id g.found.client.id ≡ true
  named id e = ap (is_client id) (sym (granted_id ops g.found g.reduction)) ∙ e

  none_more : (id : ClientId) (flight waiting : ℕ) → AllByRecursion (AreWaiting id flight waiting) old.clients → AllByRecursion (AreWaiting id flight waiting) new.clients
  none_more id flight waiting z =
      subst (λ (u : State T). AllByRecursion (AreWaiting id flight waiting) u.clients) (sym g.state_is)
      (waiting_replaced id flight waiting waiting g.found.client.id after (λ e. let a = found_waits id flight waiting z (named id e) in omega (arith, a, fewer)) (λ c e w. w) old.clients z)

  one_fewer : (id : ClientId) → is_client client id ≡ true → (flight waiting : ℕ) → AllByRecursion (AreWaiting id flight waiting) old.clients
      → (flight + 1 ≤ waiting) × AllByRecursion (AreWaiting id flight (waiting - 1)) new.clients
  one_fewer id of flight waiting z =
      let same : id ≡ g.found.client.id = same_client client id of ∙ g.client_is in
      let a = found_waits id flight waiting z (ap (λ (k : ClientId). is_client k g.found.client.id) same ∙ itself_id g.found.client.id) in (
        omega (arith, a, fewer),
        subst (λ (u : State T). AllByRecursion (AreWaiting id flight (waiting - 1)) u.clients) (sym g.state_is)
            (waiting_replaced id flight waiting (waiting - 1) g.found.client.id after (λ e. omega (arith, a, fewer))
            (λ c e w f. absurd (true≢false (sym (ap (λ (k : ClientId). is_client k c.id) (sym same) ∙ f) ∙ e))) old.clients z),
      )

  takes : Takes client 1 old.clients new.clients
  takes = record { none_more = none_more; fewer = one_fewer }

pulled_takes : {T : Type 0} (ops : Tagging T) (t : ℕ) (old new : State T) (client : ClientId) (token : Token) (phase : PhaseType) (beyond : Bool) (cost : ℕ)
    → Pulls ops t old new (replies.Granted client token phase beyond cost) → Takes client 1 old.clients new.clients
pulled_takes ops t old new client token phases.Reservation beyond cost p = takes ops t phases.Reservation _ _ old new client token cost p.1
pulled_takes ops t old new client token phases.Priority false cost p = takes ops t phases.Priority _ _ old new client token cost p.1
pulled_takes ops t old new client token phases.Priority true cost p = takes ops t phases.Priority _ _ old new client token cost p.3

-- without a grant the records are as before
pulled_none : {T : Type 0} (ops : Tagging T) (t : ℕ) (old new : State T) (reply : Reply T) → ((client : ClientId) (token : Token) (phase : PhaseType) (beyond : Bool) (cost : ℕ) → reply ≡ replies.Granted client token phase beyond cost → ⊥)
    → Pulls ops t old new reply → new.clients ≡ old.clients
pulled_none ops t old new replies.Registered other p = absurd p
pulled_none ops t old new replies.Updated other p = absurd p
pulled_none ops t old new (replies.Tagged tags) other p = absurd p
pulled_none ops t old new (replies.Granted client token phase beyond cost) other p = absurd (other client token phase beyond cost refl)
pulled_none {T} ops t old new (replies.Later m) other p = ap (λ (u : State T). u.clients) p.4
pulled_none {T} ops t old new replies.Nothing other p = ap (λ (u : State T). u.clients) p.1
pulled_none ops t old new (replies.Removed count) other p = absurd p
pulled_none ops t old new (replies.Cleaned idled erased) other p = absurd p
pulled_none {T} ops t old new (replies.Refused refusal) other p = ap (λ (u : State T). u.clients) p.1

-- ---- the client that is granted

same_flight : (phase : PhaseType) (costs : List ℕ) (p : Pair) → (with_grants phase costs p).flight ≡ p.flight
same_flight phases.Reservation costs p = refl
same_flight phases.Priority costs p = refl

one_more : (phase other : PhaseType) (cost : ℕ) (p : Pair) → length (grants other (with_grants phase (grants phase p ++ cost ∷ []) p)) ≤ length (grants other p) + 1
one_more phases.Reservation phases.Reservation cost p = let l = length-append p.reservation (cost ∷ []) in omega arith
one_more phases.Reservation phases.Priority cost p = omega arith
one_more phases.Priority phases.Reservation cost p = omega arith
one_more phases.Priority phases.Priority cost p = let l = length-append p.priority (cost ∷ []) in omega arith

module _ (s : ServerId) (phase : PhaseType) (cost place : ℕ) (h : Held) (old new : List Held) (g : IsGranted s phase cost place h old new) where
  pair_there : pair_at s g.granted.pairs ≡ with_grants phase (grants phase (pair_at s h.pairs) ++ cost ∷ []) (pair_at s h.pairs)
  pair_there = ap (pair_at s) g.pairs ∙ get_or-set_same h.pairs s.0 _ no_pair g.paired

  flight_there : length (pair_at s g.granted.pairs).flight ≡ length (pair_at s h.pairs).flight
  flight_there = ap (λ (p : Pair). length p.flight) pair_there ∙ ap length (same_flight phase _ (pair_at s h.pairs))

  as_elsewhere : (other : ServerId) → (other.0 ≡ s.0 → ⊥) → (pair_at other g.granted.pairs ≡ pair_at other h.pairs) × (room_at other g.granted.rooms ≡ room_at other h.rooms)
  as_elsewhere other apart = (ap (pair_at other) g.pairs ∙ get_or-set_other h.pairs s.0 other.0 _ no_pair apart, g.elsewhere other apart)

  -- it still has room
  granted_room : {T : Type 0} (client : ClientId) (u v : State T) → is_client client h.id ≡ true → Takes client 1 u.clients v.clients → HasRoom s h u → HasRoom s g.granted v
  granted_room client u v named takes has =
      let fewer = takes.fewer h.id named (length (pair_at s h.pairs).flight) (room_at s h.rooms).waiting has.queued in
      let least = fewer.0 in
      record {
        flight = omega (arith, flight_there, g.waiting, least);
        queued = rw (g.id, flight_there, g.waiting) fewer.1;
        room = λ other.
            let grown = one_more phase other cost (pair_at s h.pairs) in
            let had = has.room other in
            let has_now = g.as_much other in
            let there : length (grants other (pair_at s g.granted.pairs)) ≡ length (grants other (with_grants phase (grants phase (pair_at s h.pairs) ++ cost ∷ []) (pair_at s h.pairs))) = ap (λ (p : Pair). length (grants other p)) pair_there in
            omega (arith, there, grown, had, has_now, g.waiting, least);
      }

  -- it still matches
  granted_matches : (counting : Counting) (c : Client) → Matches counting h c → Matches counting g.granted (after_grant s phase cost c)
  granted_matches counting c m = record {
    id = g.id ∙ m.id;
    pairs = g.pairs ∙ ap (λ (ps : List Pair). with_pair s (with_grants phase (grants phase (pair_at s ps) ++ cost ∷ []) (pair_at s ps)) ps) m.pairs;
    tracker = rw g.tracker m.tracker;
    form = rw g.tracker m.form;
    most = rw g.tracker m.most;
    servers = rw (g.tracker, g.pairs) (m.servers ∙ sym (length-set h.pairs s.0 _));
  }

-- ---- the clients after the reply to a pull

abbrev pub clients_after : {T : Type 0} → ServerId → Reply T → List Client → List Client
clients_after s (replies.Granted client token phase beyond cost) cs = change_first (λ c. is_client client c.id) (after_grant s phase cost) cs
clients_after s reply cs = cs

after_pull_is : {T : Type 0} (s : ServerId) (reply : Reply T) (run : Run T) → after_pull s reply run ≡ record run { clients = clients_after s reply run.clients }
after_pull_is s replies.Registered run = refl
after_pull_is s replies.Updated run = refl
after_pull_is s (replies.Tagged tags) run = refl
after_pull_is s (replies.Granted client token phase beyond cost) run = refl
after_pull_is s (replies.Later m) run = refl
after_pull_is s replies.Nothing run = refl
after_pull_is s (replies.Removed count) run = refl
after_pull_is s (replies.Cleaned idled erased) run = refl
after_pull_is s (replies.Refused refusal) run = refl

-- without a grant they are as before
not_granted : {T : Type 0} (s : ServerId) (reply : Reply T) (cs : List Client)
    → ((client : ClientId) (token : Token) (phase : PhaseType) (beyond : Bool) (cost : ℕ) → reply ≡ replies.Granted client token phase beyond cost → ⊥) → clients_after s reply cs ≡ cs
not_granted s replies.Registered cs other = refl
not_granted s replies.Updated cs other = refl
not_granted s (replies.Tagged tags) cs other = refl
not_granted s (replies.Granted client token phase beyond cost) cs other = absurd (other client token phase beyond cost refl)
not_granted s (replies.Later m) cs other = refl
not_granted s replies.Nothing cs other = refl
not_granted s (replies.Removed count) cs other = refl
not_granted s (replies.Cleaned idled erased) cs other = refl
not_granted s (replies.Refused refusal) cs other = refl

module _ {T Q : Type 0} (ops : Tagging T) (state : Q → State T) (core : CoreValue Q) (s : ServerId) (at : ℕ) where
  pub pull_no_name : length core.servers ≤ s.0 → Follows ops state (Pull s at) core core (Err faults.NoServer)
  pull_no_name past = refused ops state (Pull s at) core faults.NoServer (λ m. cc) (λ run r. let none = no_server state core run r s past in rw none refl)

  module _ (within : s.0 < length core.servers) where
    pub pull_full : 0 < full_counts s core.clients → Follows ops state (Pull s at) core core (Err faults.GrantsFull)
    pull_full some = refused ops state (Pull s at) core faults.GrantsFull (λ m. cc) (λ run r.
        let server = the_server state core run r s within in
        let full : are_grants_full s run.clients ≡ true = are_full s run.counting core.clients run.clients r.clients ∙ lt-ltb _ _ some in
        rw (server.found, full) refl)

    module _ (none : full_counts s core.clients ≡ 0) (q' : Q) (reply : Reply T) (steps : (q : Q) → slice_get core.servers s.0 ≡ Some q → Steps ops (state q) (state q') (commands.Pull at) (Some reply)) where
      -- the clients after it match, and have room
      abbrev Serves : List Held → Type 0
      Serves hs = (run : Run T) → RepresentsRun state core run → AllZip (Matches run.counting) hs (clients_after s reply run.clients) × HaveRoom state (set core.servers s.0 q') hs

      pull_served : (hs : List Held) → Serves hs → Follows ops state (Pull s at) core (record { servers = set core.servers s.0 q'; clients = hs }) (Ok (Served reply))
      pull_served hs serves = λ run r.
          let server = the_server state core run r s within in
          let room : are_grants_full s run.clients ≡ false = are_full s run.counting core.clients run.clients r.clients ∙ ap (nat_lt 0) none in
          let stepped = steps server.x server.at in
          let replied : reply ≡ (step ops (state server.x) (commands.Pull at)).1 = ap (λ answer. answer.1) stepped in
          let next = (step ops (state server.x) (commands.Pull at)).0 in
          let whole : outcome ops run (Pull s at) ≡ Ok (record run { servers = set run.servers s.0 next; clients = clients_after s reply run.clients }, Served reply) =
          rw (server.found, room, ← replied, after_pull_is s reply (with_server s next run)) refl in
          let after = serves run r in
          rw whole (
            refl,
            record {
              servers = server.put q' next (ap (λ answer. answer.0) stepped);
              distinct = distinct_after ops run.servers s.0 (state server.x) (commands.Pull at) server.found r.distinct;
              clients = after.0;
              rooms = after.1;
            },
          )

      module _ (fraction : T → Fraction) (is_value : Fraction → Type 0) (exact : IsExact ops fraction is_value) (order : IsTotalOrder ops.compare) where
        pulls : (q : Q) → slice_get core.servers s.0 ≡ Some q → Pulls ops (effective (state q) at) (state q) (state q') reply
        pulls q there = subst (λ (answer : State T × Reply T). Pulls ops (effective (state q) at) (state q) answer.0 answer.1) (sym (steps q there)) (pull_grants ops fraction is_value exact order (state q) at)

        -- without a grant the clients stay
        pub pull_not_granted : ((client : ClientId) (token : Token) (phase : PhaseType) (beyond : Bool) (cost : ℕ) → reply ≡ replies.Granted client token phase beyond cost → ⊥)
            → Follows ops state (Pull s at) core (record { servers = set core.servers s.0 q'; clients = core.clients }) (Ok (Served reply))
        pull_not_granted other = pull_served core.clients (λ run r.
            let server = the_server state core run r s within in
            let same = pulled_none ops (effective (state server.x) at) (state server.x) (state q') reply other (pulls server.x server.at) in (
              rw (not_granted s reply run.clients other) r.clients,
              rooms_after_server state core.servers core.clients s q'
                  (has_room_state s (state server.x) (state q') (λ id f w z. rw same z) core.clients (r.rooms s server.x server.at)) r.rooms,
            ))

        -- a grant waits for its response
        module _ (client : ClientId) (token : Token) (phase : PhaseType) (beyond : Bool) (cost : ℕ) (reply_is : reply ≡ replies.Granted client token phase beyond cost) (hs : List Held)
            (nobody : position (λ h. is_client client h.id) core.clients ≡ None → hs ≡ core.clients)
            (granted : (place : ℕ) (h : Held) → position (λ h. is_client client h.id) core.clients ≡ Some place → slice_get core.clients place ≡ Some h
            → length (grants phase (pair_at s h.pairs)) < room_for phase (room_at s h.rooms) → IsGranted s phase cost place h core.clients hs) where
          grant_takes : (q : Q) → slice_get core.servers s.0 ≡ Some q → Takes client 1 (state q).clients (state q').clients
          grant_takes q there = pulled_takes ops (effective (state q) at) (state q) (state q') client token phase beyond cost (rw reply_is at (pulls q there))

          to_nobody : position (λ h. is_client client h.id) core.clients ≡ None → Serves hs
          to_nobody e run r =
              let server = the_server state core run r s within in
              let same : clients_after s reply run.clients ≡ run.clients = rw reply_is (no_one_changed run.counting core.clients run.clients r.clients client e (after_grant s phase cost)) in
              rw (nobody e, same) (
                r.clients,
                rooms_after_server state core.servers core.clients s q'
                    (has_room_state s (state server.x) (state q') (grant_takes server.x server.at).none_more core.clients (r.rooms s server.x server.at)) r.rooms,
              )

          to_client : (i : ℕ) → position (λ h. is_client client h.id) core.clients ≡ Some i → Serves hs
          to_client i e run r =
              let server = the_server state core run r s within in
              let both = the_client state core run r client i e in
              let h = both.x in
              let u = state server.x in
              let takes = grant_takes server.x server.at in
              let named : is_client client h.id ≡ true = ap (λ (x : Held). is_client client x.id) (sym (get_or_from_slice_get core.clients i h h both.at)) ∙ (position-Some (λ (x : Held). is_client client x.id) core.clients i h e).1 in
              let all = r.rooms s server.x server.at in
              let has : HasRoom s h u = all_there (λ (x : Held). HasRoom s x u) core.clients i h all both.at in
              let fewer = takes.fewer h.id named (length (pair_at s h.pairs).flight) (room_at s h.rooms).waiting has.queued in
              let least = fewer.0 in
              let had = has.room phase in
              let g = granted i h e both.at (omega (arith, least, had)) in
              let here = all_set (λ (x : Held). HasRoom s x (state q')) core.clients i g.granted (has_room_state s u (state q') takes.none_more core.clients all)
              (granted_room s phase cost i h core.clients hs g client u (state q') named takes has) in
              let changed : clients_after s reply run.clients ≡ change_first (λ c. is_client client c.id) (after_grant s phase cost) run.clients = ap (λ (given : Reply T). clients_after s given run.clients) reply_is in
              rw (g.clients, changed) (
                both.put g.granted (after_grant s phase cost) (granted_matches s phase cost i h core.clients hs g run.counting both.y both.related),
                rooms_after_both state core.servers core.clients s q' i h g.granted both.at within g.id (as_elsewhere s phase cost i h core.clients hs g) here r.rooms,
              )

          pub pull_granted : Follows ops state (Pull s at) core (record { servers = set core.servers s.0 q'; clients = hs }) (Ok (Served reply))
          pull_granted = pull_served hs (by (position (λ h. is_client client h.id) core.clients) refl)
            where
              by : (o : Option ℕ) → position (λ h. is_client client h.id) core.clients ≡ o → Serves hs
              by None e = to_nobody e
              by (Some i) e = to_client i e
