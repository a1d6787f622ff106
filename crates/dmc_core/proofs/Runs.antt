-- What the rules make of a run that the core represents.
use Rattle.std.proofs.Common.{◌≡◌, ℕ, ◌<◌, ◌≤◌, Bool, true, false, List, length, set, slice_get, nat_le, Option, Some, None, inl, inr, refl, sym, ap, subst, ◌∙◌, Ok, Err}
use Rattle.std.specs.Prelude.{Result, IsTrue, ◌⊎◌, position}
use Rattle.std.specs.List.{AllByRecursion, AllZip}
use Rattle.std.specs.Option.{ok_or}
use Rattle.std.proofs.lemmas.Bool.{leb-true}
use Rattle.std.proofs.lemmas.List.{length-map}
use Rattle.std.proofs.lemmas.Option.{slice_get_past}
use Rattle.dmc_types.specs.declared.ids.ClientId.{ClientId}
use Rattle.dmc_types.specs.declared.ids.ServerId.{ServerId}
use Rattle.dmc_types.specs.declared.config.Counting.{Counting}
use Rattle.dmc_types.specs.declared.command.Command.{Command}
use Rattle.dmc_tag.specs.Tag.{Tagging}
use Rattle.dmc_tag.specs.State.{State, is_client}
use Rattle.dmc_tag.specs.Outcome.{◌>>=◌, refuse_if}
use Rattle.dmc_tag.specs.Step.{step}
use Rattle.dmc_types.specs.declared.command.Command.TheVariants as commands
use Rattle.dmc_tag.specs.Steps as steps_of
use Rattle.dmc_tag.specs.Steps.{Steps}
use Rattle.dmc_tag.specs.declared.reply.Reply.{Reply}
use Rattle.dmc_core.specs.declared.event.CoreEvent.{CoreEvent}
use Rattle.dmc_core.specs.declared.event.CoreReply.{CoreReply}
use Rattle.dmc_core.specs.declared.event.CoreReply.TheVariants.{Served}
use Rattle.dmc_core.specs.declared.event.CoreFault.{CoreFault}
use Rattle.dmc_core.specs.declared.event.CoreFault.TheVariants as faults
use Rattle.dmc_core.specs.Run.{Client, Run, change_first, with_client, with_server, client_of, server_of}
use Rattle.dmc_core.specs.Events.{Outcome, client_event, server_event, outcome}
use Rattle.dmc_core.specs.Core.{Held, CoreValue, Matches, HasRoom, RepresentsRun, Follows, ClientFollows, IsRefusal, may_grow, is_accepted}
use Rattle.dmc_core.specs.internal.Parts.{place_of, KeepsRooms}
use Rattle.dmc_core.specs.internal.Serving.{IsServed}
use Rattle.dmc_core.proofs.DistinctIds.{distinct_after}
use Rattle.dmc_core.proofs.Lists.{At, at_place, First, first_of_both, none_of_both, not_changed}
use Rattle.dmc_core.proofs.Rooms.{rooms_after_client, rooms_after_server}

-- ---- the client and the server that an event names

same_id : (id : ClientId) (counting : Counting) (h : Held) (c : Client) → Matches counting h c → is_client id h.id ≡ is_client id c.id
same_id id counting h c m = ap (is_client id) m.id

module _ {T Q : Type 0} (state : Q → State T) (core : CoreValue Q) (run : Run T) (represents : RepresentsRun state core run) where
  as_many_servers : length run.servers ≡ length core.servers
  as_many_servers = ap length represents.servers ∙ length-map core.servers state

  pub no_client : (id : ClientId) → position (λ h. is_client id h.id) core.clients ≡ None → client_of run id ≡ Err faults.NoClient
  no_client id none = rw ((none_of_both (Matches run.counting) (λ h. is_client id h.id) (λ c. is_client id c.id) (same_id id run.counting) core.clients run.clients represents.clients none).0) refl

  pub no_server : (s : ServerId) → length core.servers ≤ s.0 → server_of run s ≡ Err faults.NoServer
  no_server s past = let none = slice_get_past run.servers s.0 (rw as_many_servers past) in rw none refl

  pub the_client : (id : ClientId) (i : ℕ) → position (λ h. is_client id h.id) core.clients ≡ Some i → First (Matches run.counting) (λ c. is_client id c.id) core.clients run.clients i
  the_client id i place = first_of_both (Matches run.counting) (λ h. is_client id h.id) (λ c. is_client id c.id) (same_id id run.counting) core.clients run.clients i represents.clients place

  pub the_server : (s : ServerId) → s.0 < length core.servers → At state core.servers run.servers s.0
  the_server s within = at_place state core.servers run.servers s.0 represents.servers within

-- ---- a refusal of the rules

module _ {T Q : Type 0} (ops : Tagging T) (state : Q → State T) (event : CoreEvent) (core : CoreValue Q) where
  pub refused : (fault : CoreFault) → (fault ≡ faults.Memory → ⊥) → ((run : Run T) → RepresentsRun state core run → outcome ops run event ≡ Err fault) → Follows ops state event core core (Err fault)
  refused faults.NoClient other is = λ run r. rw (is run r) (refl, r)
  refused faults.NoServer other is = λ run r. rw (is run r) (refl, r)
  refused faults.FlightFull other is = λ run r. rw (is run r) (refl, r)
  refused faults.TrackFull other is = λ run r. rw (is run r) (refl, r)
  refused faults.NoFlight other is = λ run r. rw (is run r) (refl, r)
  refused faults.GrantsFull other is = λ run r. rw (is run r) (refl, r)
  refused faults.NoGrant other is = λ run r. rw (is run r) (refl, r)
  refused faults.Memory other is = absurd (other refl)

-- ---- what a place says of the names

no_place : (o : Option ℕ) (b : Bool) (fault : CoreFault) → (ok_or o faults.NoClient >>= λ place. refuse_if b faults.NoServer >>= λ _. Ok place) ≡ Err fault
    → ((o ≡ None) × (fault ≡ faults.NoClient)) ⊎ ((i : ℕ) × (o ≡ Some i) × (b ≡ true) × (fault ≡ faults.NoServer))
no_place None b fault e = inl (refl, cc)
no_place (Some i) true fault e = inr (i, refl, refl, cc)
no_place (Some i) false fault e = cc

a_place : (o : Option ℕ) (b : Bool) (i : ℕ) → (ok_or o faults.NoClient >>= λ place. refuse_if b faults.NoServer >>= λ _. Ok place) ≡ Ok i → (o ≡ Some i) × (b ≡ false)
a_place None b i e = cc
a_place (Some j) true i e = cc
a_place (Some j) false i e = (cc, refl)

module _ {T Q : Type 0} (state : Q → State T) (core : CoreValue Q) (id : ClientId) (s : ServerId) where
  -- an event of a client at a server, whatever it does then, is refused for its names
  pub names_refused : (fault : CoreFault) → place_of id s core ≡ Err fault
      → (fault ≡ faults.Memory → ⊥) × ((run : Run T) → RepresentsRun state core run → (rest : Client → State T → Outcome T) → (client_of run id >>= λ client. server_of run s >>= λ u. rest client u) ≡ Err fault)
  names_refused fault e = by (no_place (position (λ h. is_client id h.id) core.clients) (nat_le (length core.servers) s.0) fault e)
    where
      by : ((position (λ h. is_client id h.id) core.clients ≡ None) × (fault ≡ faults.NoClient)) ⊎ ((i : ℕ) × (position (λ h. is_client id h.id) core.clients ≡ Some i) × (nat_le (length core.servers) s.0 ≡ true) × (fault ≡ faults.NoServer))
          → (fault ≡ faults.Memory → ⊥) × ((run : Run T) → RepresentsRun state core run → (rest : Client → State T → Outcome T) → (client_of run id >>= λ client. server_of run s >>= λ u. rest client u) ≡ Err fault)
      by (inl (none, fault_is)) = (
        λ m. let e : faults.NoClient ≡ faults.Memory = sym fault_is ∙ m in cc,
        λ run r rest.
            let here = no_client state core run r id none in
            rw (here, fault_is) refl,
      )
      by (inr (i, place, past, fault_is)) = (
        λ m. let e : faults.NoServer ≡ faults.Memory = sym fault_is ∙ m in cc,
        λ run r rest.
            let both = the_client state core run r id i place in
            let here = no_server state core run r s (leb-true _ _ past) in
            rw (both.found, here, fault_is) refl,
      )

pub found_place : {Q : Type 0} (id : ClientId) (s : ServerId) (core : CoreValue Q) (i : ℕ) → place_of id s core ≡ Ok i → position (λ h. is_client id h.id) core.clients ≡ Some i
found_place id s core i e = (a_place (position (λ h. is_client id h.id) core.clients) (nat_le (length core.servers) s.0) i e).0

module _ (counting : Counting) (hs : List Held) (cs : List Client) (z : AllZip (Matches counting) hs cs) (id : ClientId) where
  -- a change of a client that there is not changes none
  pub no_one_changed : position (λ h. is_client id h.id) hs ≡ None → (f : Client → Client) → change_first (λ c. is_client id c.id) f cs ≡ cs
  no_one_changed none = (none_of_both (Matches counting) (λ h. is_client id h.id) (λ c. is_client id c.id) (same_id id counting) hs cs z none).1

-- ---- the events of a client

-- a client that refuses is as it was, but for its room
pub refusal_keeps : {T : Type 0} (rule : Counting → Client → Result (Client × CoreReply T) CoreFault) (old new : Held) (answer : Result (CoreReply T) CoreFault) (fault : CoreFault)
    → answer ≡ Err fault → ClientFollows rule old new answer → new ≡ record old { rooms = new.rooms }
refusal_keeps rule old new answer fault e follows = (rw e at follows).0

refusal_is : {T : Type 0} (fault : CoreFault) (ruled : Result (Client × CoreReply T) CoreFault) → (fault ≡ faults.Memory → ⊥) → IsRefusal fault ruled → ruled ≡ Err fault
refusal_is faults.NoClient ruled other e = e
refusal_is faults.NoServer ruled other e = e
refusal_is faults.FlightFull ruled other e = e
refusal_is faults.TrackFull ruled other e = e
refusal_is faults.NoFlight ruled other e = e
refusal_is faults.GrantsFull ruled other e = e
refusal_is faults.NoGrant ruled other e = e
refusal_is faults.Memory ruled other e = absurd (other refl)

accepted_on : {T : Type 0} (ruled : Result (Client × CoreReply T) CoreFault) (id : ClientId) (run : Run T) → is_accepted ruled ≡ true → is_accepted (ruled >>= λ (next, reply). Ok (with_client id next run, reply)) ≡ true
accepted_on (Ok (next, reply)) id run e = e
accepted_on (Err fault) id run e = e

module _ {T Q : Type 0} (ops : Tagging T) (state : Q → State T) (event : CoreEvent) (core : CoreValue Q) (id : ClientId) (s : ServerId)
    (rule : Counting → Client → Result (Client × CoreReply T) CoreFault) (event_is : (run : Run T) → outcome ops run event ≡ client_event run id s (rule run.counting)) where
  pub client_no_names : (fault : CoreFault) → place_of id s core ≡ Err fault → Follows ops state event core core (Err fault)
  client_no_names fault e =
      let no = names_refused state core id s fault e in
      refused ops state event core fault no.0 (λ run r. event_is run ∙ no.1 run r (λ client u. rule run.counting client >>= λ (next, reply). Ok (with_client id next run, reply)))

  -- a client as it was, with more room
  more_room_for : (i : ℕ) (h' : Held) (run : Run T) (r : RepresentsRun state core run) (both : First (Matches run.counting) (λ c. is_client id c.id) core.clients run.clients i)
      → (h'.id ≡ both.x.id) × KeepsRooms both.x h' → h' ≡ record both.x { rooms = h'.rooms } → RepresentsRun state (record core { clients = set core.clients i h' }) run
  more_room_for i h' run r both fits same =
      let m = both.related in
      let matches : Matches run.counting (record both.x { rooms = h'.rooms }) both.y = record { id = m.id; pairs = m.pairs; tracker = m.tracker; form = m.form; most = m.most; servers = m.servers } in
      let matched : Matches run.counting h' both.y = subst (λ (h : Held). Matches run.counting h both.y) (sym same) matches in
      record {
        servers = r.servers;
        distinct = r.distinct;
        clients = subst (λ (cs : List Client). AllZip (Matches run.counting) (set core.clients i h') cs) (not_changed (λ c. is_client id c.id) run.clients) (both.put h' (λ c. c) matched);
        rooms = rooms_after_client state core.servers core.clients i both.x h' both.at fits.0 fits.1 r.rooms;
      }

  pub client_follows : (i : ℕ) → place_of id s core ≡ Ok i → s.0 < length core.servers → (h' : Held) (answer : Result (CoreReply T) CoreFault)
      → ((h : Held) → slice_get core.clients i ≡ Some h → (h'.id ≡ h.id) × KeepsRooms h h')
      → ((h : Held) → slice_get core.clients i ≡ Some h → ClientFollows rule h h' answer) → (answer ≡ Err faults.Memory → may_grow event ≡ true)
      → Follows ops state event core (record core { clients = set core.clients i h' }) answer
  client_follows i place within h' (Ok reply) fits says grows = λ run r.
      let both = the_client state core run r id i (found_place id s core i place) in
      let server = the_server state core run r s within in
      let next = says both.x both.at run.counting both.y both.related in
      let whole : outcome ops run event ≡ Ok (with_client id next.next run, reply) = event_is run ∙ rw (both.found, server.found, next.ruled_is) refl in
      rw whole (refl, record { servers = r.servers; distinct = r.distinct; clients = both.put h' (λ old. next.next) next.matches; rooms = rooms_after_client state core.servers core.clients i both.x h' both.at (fits both.x both.at).0 (fits both.x both.at).1 r.rooms })
  client_follows i place within h' (Err faults.Memory) fits says grows = (
    grows refl,
    λ run r.
        let both = the_client state core run r id i (found_place id s core i place) in
        let server = the_server state core run r s within in
        let stays = says both.x both.at in
        let accepted = stays.1 run.counting both.y both.related in
        (rw (event_is run, both.found, server.found) (accepted_on (rule run.counting both.y) id run accepted), more_room_for i h' run r both (fits both.x both.at) stays.0),
  )
  client_follows i place within h' (Err fault) fits says grows = λ run r.
      let both = the_client state core run r id i (found_place id s core i place) in
      let server = the_server state core run r s within in
      let stays = says both.x both.at in
      let e = refusal_is fault (rule run.counting both.y) (λ m. cc) (stays.1 run.counting both.y both.related) in
      let whole : outcome ops run event ≡ Err fault = event_is run ∙ rw (both.found, server.found, e) refl in
      rw whole (refl, more_room_for i h' run r both (fits both.x both.at) stays.0)

-- ---- the commands to a queue

module _ {T Q : Type 0} (ops : Tagging T) (state : Q → State T) (event : CoreEvent) (core : CoreValue Q) (s : ServerId)
    (command : Command) (event_is : (run : Run T) → outcome ops run event ≡ server_event ops run s command) where
  pub server_no_name : length core.servers ≤ s.0 → Follows ops state event core core (Err faults.NoServer)
  server_no_name past = refused ops state event core faults.NoServer (λ m. cc) (λ run r. let none = no_server state core run r s past in event_is run ∙ rw none refl)

  pub server_follows : s.0 < length core.servers → (q' : Q) (reply : Reply T)
      → ((q : Q) → slice_get core.servers s.0 ≡ Some q → Steps ops (state q) (state q') command (Some reply))
      → ((q : Q) → slice_get core.servers s.0 ≡ Some q → AllByRecursion (λ h. HasRoom s h (state q)) core.clients → AllByRecursion (λ h. HasRoom s h (state q')) core.clients)
      → Follows ops state event core (record core { servers = set core.servers s.0 q' }) (Ok (Served reply))
  server_follows within q' reply steps fits = λ run r.
      let server = the_server state core run r s within in
      let stepped = steps server.x server.at in
      let whole : outcome ops run event ≡ Ok (with_server s ((step ops (state server.x) command).0) run, Served ((step ops (state server.x) command).1)) = event_is run ∙ rw server.found refl in
      rw (whole, ap (λ p. p.1) stepped) (
        refl,
        record {
          servers = server.put q' _ (ap (λ p. p.0) stepped);
          distinct = distinct_after ops run.servers s.0 (state server.x) command server.found r.distinct;
          clients = r.clients;
          rooms = rooms_after_server state core.servers core.clients s q' (fits server.x server.at (r.rooms s server.x server.at)) r.rooms;
        },
      )

-- ---- the commands that are events of a cluster as they are

pub served_is : {T : Type 0} (ops : Tagging T) (s : ServerId) (command : Command) (event : CoreEvent) → IsServed s command event
    → (run : Run T) → outcome ops run event ≡ server_event ops run s command
served_is ops s (commands.Register client info at) event h run = absurd h
served_is ops s (commands.Update client info at) event h run = rw h refl
served_is ops s (commands.Add client token params at) event h run = absurd h
served_is ops s (commands.Pull at) event h run = absurd h
served_is ops s (commands.Remove client) event h run = absurd h
served_is ops s (commands.Cancel client token counting) event h run = absurd h
served_is ops s (commands.Clean at) event h run = rw h refl

pub served_takes_none : (s : ServerId) (command : Command) (event : CoreEvent) → IsServed s command event → IsTrue (steps_of.may_grow command) → ⊥
served_takes_none s (commands.Register client info at) event h grows = h
served_takes_none s (commands.Update client info at) event h grows = cc
served_takes_none s (commands.Add client token params at) event h grows = h
served_takes_none s (commands.Pull at) event h grows = h
served_takes_none s (commands.Remove client) event h grows = h
served_takes_none s (commands.Cancel client token counting) event h grows = h
served_takes_none s (commands.Clean at) event h grows = cc
