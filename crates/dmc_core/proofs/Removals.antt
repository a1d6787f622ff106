-- What the rules make of a removal, and of a cancel.
use Rattle.std.proofs.Common.{◌≡◌, ℕ, ◌+◌, ◌-◌, ◌<◌, ◌≤◌, Bool, true, false, true≢false, nat_lt, List, [], ◌∷◌, length, set, slice_get, Option, Some, None, refl, sym, ap, subst, ◌∙◌, Ok, Err, arith}
use Rattle.std.specs.Prelude.{position, filter, if◌then◌else◌, slice_set}
use Rattle.std.specs.List.{AllByRecursion, AllZip, IsDistinct}
use Rattle.std.proofs.lemmas.Bool.{ltb-true, ltb-false}
use Rattle.std.proofs.lemmas.List.{length-set, get_or-set_same, get_or-set_other, get_or_past}
use Rattle.std.proofs.lemmas.List.Quantifiers.{position-Some}
use Rattle.std.proofs.lemmas.Map.Keys.{IsDistinct-head, IsDistinct-tail}
use Rattle.std.proofs.lemmas.Option.{get_or_from_slice_get, same_Some}
use Rattle.dmc_types.specs.declared.ids.ClientId.{ClientId}
use Rattle.dmc_types.specs.declared.ids.ServerId.{ServerId}
use Rattle.dmc_types.specs.declared.ids.Token.{Token}
use Rattle.dmc_types.specs.declared.config.Counting.{Counting}
use Rattle.dmc_types.specs.declared.config.PhaseType.{PhaseType}
use Rattle.dmc_types.specs.declared.config.PhaseType.TheVariants as phases
use Rattle.dmc_types.specs.declared.command.Command.{Command}
use Rattle.dmc_types.specs.declared.command.Command.TheVariants as commands
use Rattle.dmc_tag.specs.Tag.{Tagging}
use Rattle.dmc_tag.specs.State.{State, PlainClient, client_named, is_client}
use Rattle.dmc_tag.specs.Outcome.{◌>>=◌}
use Rattle.dmc_tag.specs.Rules as rules
use Rattle.dmc_tag.specs.Cancel.{befores_next, charged_to, has_token, staying, without_token}
use Rattle.dmc_tag.specs.Step.{step, outcome as step_outcome}
use Rattle.dmc_tag.specs.Steps.{Steps}
use Rattle.dmc_tag.specs.declared.cancel.Befores.{Befores}
use Rattle.dmc_tag.specs.declared.plain.QueuedRequest.{QueuedRequest}
use Rattle.dmc_tag.specs.declared.plain.Slack.{Slack}
use Rattle.dmc_tag.specs.declared.reply.Reply.{Reply}
use Rattle.dmc_tag.specs.declared.reply.Reply.TheVariants as replies
use Rattle.dmc_tag.proofs.Active.{either, same_client}
use Rattle.dmc_tag.proofs.Ids.{all_there}
use Rattle.dmc_lemmas.proofs.Lists.{found_holds, found_passes}
use Rattle.dmc_core.specs.declared.event.CoreEvent.{CoreEvent}
use Rattle.dmc_core.specs.declared.event.CoreEvent.TheVariants.{Cancel}
use Rattle.dmc_core.specs.declared.event.CoreReply.TheVariants.{Served}
use Rattle.dmc_core.specs.declared.event.CoreFault.{CoreFault}
use Rattle.dmc_core.specs.Run.{Client, Run, pair_at, with_server, grants}
use Rattle.dmc_core.specs.Events.{outcome, server_event}
use Rattle.dmc_core.specs.Core.{Held, Room, CoreValue, Matches, HasRoom, AreWaiting, HasDistinctIds, RepresentsRun, Follows, no_room, room_at, room_for}
use Rattle.dmc_core.specs.internal.Parts.{place_of}
use Rattle.dmc_core.proofs.DistinctIds.{distinct_after}
use Rattle.dmc_core.proofs.Lists.{all_set, not_changed}
use Rattle.dmc_core.proofs.Rooms.{HaveRoom, Takes, has_room_state, rooms_after_server, rooms_after_both, waiting_fewer}
use Rattle.dmc_core.proofs.Runs.{refused, names_refused, found_place, the_client, the_server}

-- ---- what taking requests of a client out leaves of the records

module _ {T : Type 0} (client : ClientId) (g : PlainClient T → PlainClient T) (same : (c : PlainClient T) → (g c).id ≡ c.id) where
  -- it is another client's record
  other_waits : (flight waiting : ℕ) (c : PlainClient T) → is_client client c.id ≡ false → AreWaiting client flight waiting (if is_client client c.id then g c else c)
  other_waits flight waiting c e named = absurd (true≢false (sym (rw e at named) ∙ e))

  others_wait : (flight waiting : ℕ) (cs : List (PlainClient T)) → AllByRecursion (λ c. is_client client c.id ≡ false) cs → AllByRecursion (AreWaiting client flight waiting) (rules.change_client client g cs)
  others_wait flight waiting [] h = tt
  others_wait flight waiting (c ∷ cs) h = (other_waits flight waiting c h.0, others_wait flight waiting cs h.1)

  -- this number fewer of the one record that is the client's
  taken_from : (found : PlainClient T) (count : ℕ) → length (g found).requests + count ≡ length found.requests → (flight waiting : ℕ) (cs : List (PlainClient T)) → IsDistinct (λ c d. is_client c.id d.id) cs
      → client_named client cs ≡ Some found → AllByRecursion (AreWaiting client flight waiting) cs → AllByRecursion (AreWaiting client flight (waiting - count)) (rules.change_client client g cs)
  taken_from found count fewer flight waiting [] distinct named z = cc
  taken_from found count fewer flight waiting (c ∷ cs) distinct named z = by (is_client client c.id) refl named (λ n. taken_from found count fewer flight waiting cs (IsDistinct-tail _ c cs distinct) n z.1)
    where
      by : (b : Bool) → is_client client c.id ≡ b → (if b then Some c else client_named client cs) ≡ Some found
          → (client_named client cs ≡ Some found → AllByRecursion (AreWaiting client flight (waiting - count)) (rules.change_client client g cs))
          → AllByRecursion (AreWaiting client flight (waiting - count)) (rules.change_client client g (c ∷ cs))
      by true e n rest =
          let is : c ≡ found = same_Some c found n in
          let own : c.id ≡ client = same_client client c.id e in
          let had = z.0 e in
          let left = ap (λ (d : PlainClient T). length (g d).requests + count) is ∙ fewer ∙ sym (ap (λ (d : PlainClient T). length d.requests) is) in (
            rw e (λ f. omega (arith, had, left)),
            others_wait flight (waiting - count) cs (subst (λ id. AllByRecursion (λ (d : PlainClient T). is_client id d.id ≡ false) cs) own (IsDistinct-head _ c cs distinct)),
          )
      by false e n rest = (other_waits flight (waiting - count) c e, rest n)

  takes_from : (found : PlainClient T) (count : ℕ) → length (g found).requests + count ≡ length found.requests → ((c : PlainClient T) → length (g c).requests ≤ length c.requests)
      → (cs : List (PlainClient T)) → IsDistinct (λ c d. is_client c.id d.id) cs → client_named client cs ≡ Some found → Takes client count cs (rules.change_client client g cs)
  takes_from found count fewer none_more cs distinct named = record {
    none_more = λ id flight waiting z. waiting_fewer id flight waiting (λ c. if is_client client c.id then g c else c)
        (λ c. either (λ (d : PlainClient T). d.id ≡ c.id) (is_client client c.id) (g c) c (same c) refl)
        (λ c. either (λ (d : PlainClient T). length d.requests ≤ length c.requests) (is_client client c.id) (g c) c (none_more c) (omega arith)) cs z;
    fewer = λ id own flight waiting z.
        let is : id ≡ client = same_client client id own in
        let all : AllByRecursion (AreWaiting client flight waiting) cs = subst (λ k. AllByRecursion (AreWaiting k flight waiting) cs) is z in
        let here = found_holds (AreWaiting client flight waiting) (λ c. is_client client c.id) cs found all named (found_passes (λ (c : PlainClient T). is_client client c.id) cs found named) in (
          omega (arith, here, fewer),
          subst (λ k. AllByRecursion (AreWaiting k flight (waiting - count)) (rules.change_client client g cs)) (sym is) (taken_from found count fewer flight waiting cs distinct named all),
        );
  }

-- ---- a command that takes requests of a client out

-- What it leaves: of no client may more be granted than before, and of this one as many fewer as it replies that it took out.
pub record TakesOut {T : Type 0} (ops : Tagging T) (client : ClientId) (command : Command) : Type 0 where
  pub none_more : (u : State T) (id : ClientId) (flight waiting : ℕ) → AllByRecursion (AreWaiting id flight waiting) u.clients → AllByRecursion (AreWaiting id flight waiting) ((step ops u command).0).clients
  pub takes : (u : State T) → HasDistinctIds u → (count : ℕ) → (step ops u command).1 ≡ replies.Removed count → Takes client count u.clients ((step ops u command).0).clients

module _ {T : Type 0} (ops : Tagging T) (client : ClientId) (command : Command) (g : State T → PlainClient T → PlainClient T) (counted : PlainClient T → ℕ)
    (same : (u : State T) (c : PlainClient T) → (g u c).id ≡ c.id) (left : (u : State T) (c : PlainClient T) → length (g u c).requests + counted c ≡ length c.requests)
    (rule : (u : State T) → step_outcome ops u command ≡ (rules.can_remove u client >>= λ c. Ok (record u { clients = rules.change_client client (g u) u.clients }, replies.Removed (counted c)))) where
  takes_out : TakesOut ops client command
  takes_out = record {
    none_more = λ u id flight waiting z. unless u id flight waiting z (client_named client u.clients) refl;
    takes = λ u distinct count replied. named u distinct count replied (client_named client u.clients) refl;
  } where
    as_few : (u : State T) (c : PlainClient T) → length (g u c).requests ≤ length c.requests
    as_few u c = omega (arith, left u c)

    unless : (u : State T) (id : ClientId) (flight waiting : ℕ) → AllByRecursion (AreWaiting id flight waiting) u.clients → (o : Option (PlainClient T)) → client_named client u.clients ≡ o
        → AllByRecursion (AreWaiting id flight waiting) ((step ops u command).0).clients
    unless u id flight waiting z None e = rw (rule u, e) z
    unless u id flight waiting z (Some c) e = rw (rule u, e) (waiting_fewer id flight waiting (λ d. if is_client client d.id then g u d else d)
        (λ d. either (λ (x : PlainClient T). x.id ≡ d.id) (is_client client d.id) (g u d) d (same u d) refl)
        (λ d. either (λ (x : PlainClient T). length x.requests ≤ length d.requests) (is_client client d.id) (g u d) d (as_few u d) (omega arith)) u.clients z)

    named : (u : State T) → HasDistinctIds u → (count : ℕ) → (step ops u command).1 ≡ replies.Removed count → (o : Option (PlainClient T)) → client_named client u.clients ≡ o
        → Takes client count u.clients ((step ops u command).0).clients
    named u distinct count replied None e = let clash = rw (rule u, e) at replied in cc
    named u distinct count replied (Some c) e =
        let said : ◌≡◌ {A = Reply T} (replies.Removed (counted c)) (replies.Removed count) = rw (rule u, e) at replied in
        let count_is : counted c ≡ count = cc in
        rw (rule u, e) (takes_from client (g u) (same u) c count (ap (λ n. length (g u c).requests + n) (sym count_is) ∙ left u c) (as_few u) u.clients distinct e)

module _ {T : Type 0} (ops : Tagging T) (client : ClientId) where
  -- a removal takes out all
  pub remove_takes_out : TakesOut ops client (commands.Remove client)
  remove_takes_out = takes_out ops client (commands.Remove client) (λ u. rules.with_requests []) (λ c. length c.requests) (λ u c. refl) (λ u c. omega arith) (λ u. refl)

  -- those that stay, and those with the token
  parted : (token : Token) (charged : ℕ → Slack T) (rs : List (QueuedRequest T)) (befores : Befores T) → length (staying ops token charged befores rs) + length (filter (has_token token) rs) ≡ length rs
  parted token charged [] befores = refl
  parted token charged (r ∷ rs) befores = by (has_token token r) refl (λ b. parted token charged rs (befores_next ops b (charged r.cost) befores r))
    where
      by : (b : Bool) → has_token token r ≡ b → ((b : Bool) → length (staying ops token charged (befores_next ops b (charged r.cost) befores r) rs) + length (filter (has_token token) rs) ≡ length rs)
          → length (staying ops token charged befores (r ∷ rs)) + length (filter (has_token token) (r ∷ rs)) ≡ length (r ∷ rs)
      by true e rest = let l = rest true in rw e (omega (arith, l))
      by false e rest = let l = rest false in rw e (omega (arith, l))

  -- a cancel those with the token
  pub cancel_takes_out : (token : Token) (counting : Counting) → TakesOut ops client (commands.Cancel client token counting)
  cancel_takes_out token counting = takes_out ops client (commands.Cancel client token counting) (λ u c. without_token ops token (charged_to ops u.config.hz counting c) c) (λ c. length (filter (has_token token) c.requests)) (λ u c. refl)
      (λ u c. parted token (charged_to ops u.config.hz counting c) c.requests _) (λ u. refl)

-- ---- the client whose requests they are

-- what is written for a room that there is, or that there need not be
room_set : (rooms : List Room) (s : ServerId) (count : ℕ)
    → room_at s (slice_set rooms s.0 (record (room_at s rooms) { waiting = (room_at s rooms).waiting - count })) ≡ record (room_at s rooms) { waiting = (room_at s rooms).waiting - count }
room_set rooms s count = by (nat_lt s.0 (length rooms)) refl
  where
    by : (b : Bool) → nat_lt s.0 (length rooms) ≡ b
        → room_at s (slice_set rooms s.0 (record (room_at s rooms) { waiting = (room_at s rooms).waiting - count })) ≡ record (room_at s rooms) { waiting = (room_at s rooms).waiting - count }
    by true e = get_or-set_same rooms s.0 _ no_room (ltb-true _ _ e)
    by false e =
        let past = ltb-false _ _ e in
        let none : room_at s rooms ≡ no_room = get_or_past rooms s.0 no_room past in
        let still : room_at s (slice_set rooms s.0 (record (room_at s rooms) { waiting = (room_at s rooms).waiting - count })) ≡ no_room =
        get_or_past (set rooms s.0 _) s.0 no_room (omega (arith, length-set rooms s.0 (record (room_at s rooms) { waiting = (room_at s rooms).waiting - count }), past)) in
        let zero_is : 0 - count ≡ 0 = omega arith in
        still ∙ sym (ap (λ (r : Room). record r { waiting = r.waiting - count }) none ∙ ap (λ (n : ℕ). record no_room { waiting = n }) zero_is)

module _ (s : ServerId) (count : ℕ) (h : Held) where
  -- this number fewer may still be granted
  abbrev pub forgotten : Held
  forgotten = record h { rooms = slice_set h.rooms s.0 (record (room_at s h.rooms) { waiting = (room_at s h.rooms).waiting - count }) }

  forgotten_matches : (counting : Counting) (c : Client) → Matches counting h c → Matches counting forgotten c
  forgotten_matches counting c m = record { id = m.id; pairs = m.pairs; tracker = m.tracker; form = m.form; most = m.most; servers = m.servers }

  room_left : (phase : PhaseType) (room : Room) (n : ℕ) → n + room.waiting ≤ room_for phase room → n + (room.waiting - count) ≤ room_for phase (record room { waiting = room.waiting - count })
  room_left phases.Reservation room n had = omega arith
  room_left phases.Priority room n had = omega arith

  forgotten_room : {T : Type 0} (client : ClientId) (u v : State T) → is_client client h.id ≡ true → Takes client count u.clients v.clients → HasRoom s h u → HasRoom s forgotten v
  forgotten_room client u v named takes has =
      let is = room_set h.rooms s count in
      let fewer = takes.fewer h.id named (length (pair_at s h.pairs).flight) (room_at s h.rooms).waiting has.queued in
      let least = fewer.0 in
      record {
        flight = rw is (omega (arith, least));
        queued = rw is fewer.1;
        room = λ phase. rw is (room_left phase (room_at s h.rooms) (length (grants phase (pair_at s h.pairs))) (has.room phase));
      }

  forgotten_elsewhere : (other : ServerId) → (other.0 ≡ s.0 → ⊥) → (pair_at other forgotten.pairs ≡ pair_at other h.pairs) × (room_at other forgotten.rooms ≡ room_at other h.rooms)
  forgotten_elsewhere other apart = (refl, get_or-set_other h.rooms s.0 other.0 _ no_room apart)

-- ---- an event by which a server takes requests of a client out

module _ {T Q : Type 0} (ops : Tagging T) (state : Q → State T) (core : CoreValue Q) (event : CoreEvent) (id : ClientId) (s : ServerId) (command : Command)
    (event_is : (run : Run T) → RepresentsRun state core run → outcome ops run event ≡ server_event ops run s command) (takes_out : TakesOut ops id command)
    (within : s.0 < length core.servers) (q' : Q) (reply : Reply T) (steps : (q : Q) → slice_get core.servers s.0 ≡ Some q → Steps ops (state q) (state q') command (Some reply)) where
  taken_out_served : (hs : List Held) → ((run : Run T) → RepresentsRun state core run → AllZip (Matches run.counting) hs run.clients × HaveRoom state (set core.servers s.0 q') hs)
      → Follows ops state event core (record { servers = set core.servers s.0 q'; clients = hs }) (Ok (Served reply))
  taken_out_served hs after = λ run r.
      let server = the_server state core run r s within in
      let stepped = steps server.x server.at in
      let whole : outcome ops run event ≡ Ok (with_server s ((step ops (state server.x) command).0) run, Served ((step ops (state server.x) command).1)) = event_is run r ∙ rw server.found refl in
      let is = after run r in
      rw (whole, ap (λ p. p.1) stepped) (
        refl,
        record {
          servers = server.put q' _ (ap (λ p. p.0) stepped);
          distinct = distinct_after ops run.servers s.0 (state server.x) command server.found r.distinct;
          clients = is.0;
          rooms = is.1;
        },
      )

  none_more : (q : Q) → slice_get core.servers s.0 ≡ Some q → (of : ClientId) (flight waiting : ℕ) → AllByRecursion (AreWaiting of flight waiting) (state q).clients → AllByRecursion (AreWaiting of flight waiting) (state q').clients
  none_more q there of flight waiting z =
      subst (λ (v : State T). AllByRecursion (AreWaiting of flight waiting) v.clients) (sym (ap (λ p. p.0) (steps q there))) (takes_out.none_more (state q) of flight waiting z)

  -- the clients stay
  pub taken_out_alone : Follows ops state event core (record { servers = set core.servers s.0 q'; clients = core.clients }) (Ok (Served reply))
  taken_out_alone = taken_out_served core.clients (λ run r.
      let server = the_server state core run r s within in
      (r.clients, rooms_after_server state core.servers core.clients s q' (has_room_state s (state server.x) (state q') (none_more server.x server.at) core.clients (r.rooms s server.x server.at)) r.rooms))

  -- of this client this number fewer may be granted
  module _ (count : ℕ) (replied : reply ≡ replies.Removed count) where
    pub taken_out_of : (i : ℕ) → position (λ h. is_client id h.id) core.clients ≡ Some i → (hs : List Held) → ((h : Held) → slice_get core.clients i ≡ Some h → hs ≡ set core.clients i (forgotten s count h))
        → Follows ops state event core (record { servers = set core.servers s.0 q'; clients = hs }) (Ok (Served reply))
    taken_out_of i place hs forgets = taken_out_served hs (λ run r.
        let server = the_server state core run r s within in
        let both = the_client state core run r id i place in
        let h = both.x in
        let u = state server.x in
        let stepped = steps server.x server.at in
        let named : is_client id h.id ≡ true = ap (λ (x : Held). is_client id x.id) (sym (get_or_from_slice_get core.clients i h h both.at)) ∙ (position-Some (λ (x : Held). is_client id x.id) core.clients i h place).1 in
        let all = r.rooms s server.x server.at in
        let has : HasRoom s h u = all_there (λ (x : Held). HasRoom s x u) core.clients i h all both.at in
        let distinct : HasDistinctIds u = all_there (λ (v : State T). HasDistinctIds v) run.servers s.0 u r.distinct server.found in
        let takes : Takes id count u.clients (state q').clients =
        subst (λ (v : State T). Takes id count u.clients v.clients) (sym (ap (λ p. p.0) stepped)) (takes_out.takes u distinct count (sym (ap (λ p. p.1) stepped) ∙ replied)) in
        let here = all_set (λ (x : Held). HasRoom s x (state q')) core.clients i (forgotten s count h) (has_room_state s u (state q') (none_more server.x server.at) core.clients all) (forgotten_room s count h id u (state q') named takes has) in
        rw (forgets h both.at) (
          subst (λ (cs : List Client). AllZip (Matches run.counting) (set core.clients i (forgotten s count h)) cs) (not_changed (λ c. is_client id c.id) run.clients) (both.put (forgotten s count h) (λ c. c) (forgotten_matches s count h run.counting both.y both.related)),
          rooms_after_both state core.servers core.clients s q' i h (forgotten s count h) both.at within refl (forgotten_elsewhere s count h) here r.rooms,
        ))

    -- if there is such a client
    pub taken_out : (hs : List Held) → (position (λ h. is_client id h.id) core.clients ≡ None → hs ≡ core.clients)
        → ((i : ℕ) (h : Held) → position (λ h. is_client id h.id) core.clients ≡ Some i → slice_get core.clients i ≡ Some h → hs ≡ set core.clients i (forgotten s count h))
        → Follows ops state event core (record { servers = set core.servers s.0 q'; clients = hs }) (Ok (Served reply))
    taken_out hs nobody forgets = by (position (λ h. is_client id h.id) core.clients) refl
      where
        by : (o : Option ℕ) → position (λ h. is_client id h.id) core.clients ≡ o → Follows ops state event core (record { servers = set core.servers s.0 q'; clients = hs }) (Ok (Served reply))
        by None e = rw (nobody e) taken_out_alone
        by (Some i) e = taken_out_of i e hs (λ h at. forgets i h e at)

-- ---- the rules of a cancel

module _ {T Q : Type 0} (ops : Tagging T) (state : Q → State T) (core : CoreValue Q) (id : ClientId) (s : ServerId) (token : Token) where
  pub cancel_no_names : (fault : CoreFault) → place_of id s core ≡ Err fault → Follows ops state (Cancel s id token) core core (Err fault)
  cancel_no_names fault e =
      let no = names_refused state core id s fault e in
      refused ops state (Cancel s id token) core fault no.0 (λ run r. no.1 run r (λ client u.
      Ok (with_server s ((step ops u (commands.Cancel id token run.counting)).0) run, Served ((step ops u (commands.Cancel id token run.counting)).1))))

  -- it is the command in the form of the client's tracker
  pub cancel_is : (i : ℕ) → place_of id s core ≡ Ok i → (counting : Counting) → ((h : Held) → slice_get core.clients i ≡ Some h → counting ≡ h.tracker.counting)
      → (run : Run T) → RepresentsRun state core run → outcome ops run (Cancel s id token) ≡ server_event ops run s (commands.Cancel id token counting)
  cancel_is i place counting form run r =
      let both = the_client state core run r id i (found_place id s core i place) in
      let same : run.counting ≡ counting = sym (form both.x both.at ∙ both.related.form) in
      rw both.found (ap (λ k. server_event ops run s (commands.Cancel id token k)) same)
