-- In every cluster run a client's arrivals at a server follow its stamps, and its list is tracked.
use Rattle.std.proofs.Common.{◌≡◌, ℕ, ◌<◌, Bool, true, false, cond, ◌==◌, List, [], ◌∷◌, ◌++◌, map, length, slice_get, replicate, Some, Ok, Err, refl, sym, ap, ◌∙◌, subst, arith, append_assoc}
use Rattle.std.specs.Option.{option_map, option_and_then}
use Rattle.std.specs.List.{find}
use Rattle.std.proofs.lemmas.List.{append-nil, map-append, length-replicate, get_or-replicate}
use Rattle.std.proofs.lemmas.Bool.{eqb-true}
use Rattle.dmc_types.specs.Values.{Params, Rates}
use Rattle.dmc_types.specs.declared.ids.ClientId.{ClientId}
use Rattle.dmc_types.specs.declared.ids.ServerId.{ServerId}
use Rattle.dmc_types.specs.declared.config.Counting.{Counting}
use Rattle.dmc_types.specs.declared.command.Command.{Command}
use Rattle.dmc_types.specs.declared.command.Command.TheVariants as commands
use Rattle.dmc_tag.specs.Tag.{Tagging}
use Rattle.dmc_tag.specs.State.{State, is_client, opening}
use Rattle.dmc_tag.specs.Step.{step}
use Rattle.dmc_tag.specs.declared.event.Event.{Event}
use Rattle.dmc_tag.specs.declared.reply.Reply.{Reply}
use Rattle.dmc_tag.specs.declared.reply.Reply.TheVariants as replies
use Rattle.dmc_history_laws.specs.Bounds.{Arrival, arrivals}
use Rattle.dmc_history_laws.proofs.ForCallers.{arrivals-append}
use Rattle.dmc_scene.specs.SceneValue.{SceneValue}
use Rattle.dmc_tracker.specs.TrackerList.{demanded, skips, IsTracked}
use Rattle.dmc_tracker.proofs.ForCallers.{IsTracked-nil}
use Rattle.dmc_core.specs.declared.event.Message.{Message}
use Rattle.dmc_core.specs.declared.event.CoreEvent.{CoreEvent}
use Rattle.dmc_core.specs.declared.event.CoreEvent.TheVariants.{Stamp, Arrive, Pull, Respond, Update, Remove, Cancel, Clean}
use Rattle.dmc_core.specs.declared.event.CoreReply.{CoreReply}
use Rattle.dmc_core.specs.declared.event.CoreReply.TheVariants.{Stamped, Served, Counted}
use Rattle.dmc_core.specs.Run.{Pair, Client, Run, no_pair, pair_at, change_first, with_server}
use Rattle.dmc_core.specs.Events.{after_stamp, after_response, after_grant, client_after_arrival, after_pull, cluster_step, registration, run_after}
use Rattle.dmc_core.specs.Opening.{named_rates, opening_of}
use Rattle.dmc_core_laws.specs.Histories.{Answer, client_in, is_server, server_named, queue_command, oldest, recorded_events, entry, registrations, history_from, history}
use Rattle.dmc_core_laws.specs.Bounds.{run_of, stamps_to, ArrivalsFollowStamps}
use Rattle.dmc_core_laws.proofs.Given.{Gives, gives, step_goes}
use Rattle.dmc_core_laws.proofs.Histories.{nothing_refused, nothing_handed}
use Rattle.dmc_core_laws.proofs.Clients.{found_changed, found_same, params_of, IsFollowed, stamp_follows, response_follows, grant_follows, arrival_follows}
use Rattle.std.proofs.lemmas.Option.{same_Some}
use Rattle.dmc_tag.proofs.ForCallers.{same_client}
use Rattle.dmc_lemmas.proofs.Lists.{found_passes}

module _ {T : Type 0} (ops : Tagging T) (counting : Counting) (id : ClientId) (s : ServerId) where
  -- so it is of the client, if there is one
  pub record AreFollowed (arrived : List Params) (run : Run T) : Type 0 where
    pub form : run.counting ≡ counting
    pub each : (c : Client) → client_in run id ≡ Some c → IsFollowed counting s arrived c

  abbrev more : List Params → List (Event T) → List Params
  more arrived reported = arrived ++ params_of (arrivals id reported)

  nothing_more : (arrived : List Params) (reported : List (Event T)) → arrivals id reported ≡ [] → more arrived reported ≡ arrived
  nothing_more arrived reported none = ap (λ qs. arrived ++ params_of qs) none ∙ append-nil arrived

  -- an event of a client that there is
  changed : (arrived : List Params) (run next : Run T) (reported : List (Event T)) (client : ClientId) (f : Client → Client) → AreFollowed arrived run
      → next.counting ≡ run.counting → next.clients ≡ change_first (λ c. is_client client c.id) f run.clients
      → ((x : Client) → is_client client x.id ≡ true → is_client client (f x).id ≡ true)
      → (client ≡ id → (c : Client) → client_in run id ≡ Some c → IsFollowed counting s arrived c → IsFollowed counting s (more arrived reported) (f c))
      → (is_client id client ≡ false → arrivals id reported ≡ []) → AreFollowed (more arrived reported) next
  changed arrived run next reported client f is form clients_are keeps own others = by (is_client id client) refl
    where
      by : (b : Bool) → is_client id client ≡ b → AreFollowed (more arrived reported) next
      by true e =
          let same : client ≡ id = same_client id client e in
          record {
            form = form ∙ is.form;
            each = λ c found.
                let was = found_changed (λ (x : Client). is_client client x.id) (λ (x : Client). is_client id x.id) f run.clients c
                (λ x h. subst (λ (k : ClientId). is_client k x.id ≡ true) same h) (λ x h. subst (λ (k : ClientId). is_client k (f x).id ≡ true) same (keeps x h)) (λ x h. subst (λ (k : ClientId). is_client k x.id ≡ true) (sym same) h)
                (subst (λ cs. find (λ (x : Client). is_client id x.id) cs ≡ Some c) clients_are found) in
                subst (IsFollowed counting s (more arrived reported)) (sym was.2) (own same was.0 was.1 (is.each was.0 was.1));
          }
      by false e =
          let other : (x : Client) → is_client client x.id ≡ true → is_client id x.id ≡ false = λ x h. subst (λ (n : ℕ). (n == id.0) ≡ false) (sym (eqb-true x.id.0 client.0 h)) e in
          record {
            form = form ∙ is.form;
            each = λ c found.
                let was : client_in run id ≡ Some c = sym (found_same (λ (x : Client). is_client client x.id) (λ (x : Client). is_client id x.id) f run.clients other (λ x h. other (f x) (keeps x h)))
                ∙ subst (λ cs. find (λ (x : Client). is_client id x.id) cs ≡ Some c) clients_are found in
                subst (λ ps. IsFollowed counting s ps c) (sym (nothing_more arrived reported (others e))) (is.each c was);
          }

  -- an event that leaves the clients
  untouched : (arrived : List Params) (run next : Run T) (reported : List (Event T)) → AreFollowed arrived run → next.counting ≡ run.counting → next.clients ≡ run.clients → arrivals id reported ≡ [] → AreFollowed (more arrived reported) next
  untouched arrived run next reported is form same none = record {
    form = form ∙ is.form;
    each = λ c found. subst (λ ps. IsFollowed counting s ps c) (sym (nothing_more arrived reported none)) (is.each c (subst (λ cs. find (λ (x : Client). is_client id x.id) cs ≡ Some c) same found));
  }

  -- what is recorded of another command than an add is no arrival
  no_arrival : (b : Bool) (command : Command) (answer : Answer T) → ((reply : Reply T) → arrivals id (entry command reply ∷ []) ≡ []) → arrivals id (recorded_events b (Some command) answer) ≡ []
  no_arrival true command (Ok (Served reply)) none = none reply
  no_arrival true command (Ok (Stamped params)) none = refl
  no_arrival true command (Ok Counted) none = refl
  no_arrival true command (Err fault) none = refl
  no_arrival false command answer none = refl

  -- nor is another client's add
  no_other : (client : ClientId) (m : Message) (at : ℕ) (reply : Reply T) → is_client id client ≡ false → arrivals id (entry (commands.Add client m.token m.params at) reply ∷ []) ≡ []
  no_other client m at (replies.Tagged tags) e = rw e refl
  no_other client m at reply e = refl

  pulled_clients : (q : ServerId) (reply : Reply T) (arrived : List Params) (run next : Run T) (servers : List (State T)) (reported : List (Event T)) → AreFollowed arrived run → next ≡ after_pull q reply (record run { servers = servers }) → arrivals id reported ≡ [] → AreFollowed (more arrived reported) next
  pulled_clients q (replies.Granted client token phase beyond cost) arrived run next servers reported is next_is none =
      changed arrived run next reported client (after_grant q phase cost) is (ap (λ (r : Run T). r.counting) next_is) (ap (λ (r : Run T). r.clients) next_is) (λ x h. h)
      (λ same c found follows. subst (λ ps. IsFollowed counting s ps (after_grant q phase cost c)) (sym (nothing_more arrived reported none)) (grant_follows counting s arrived c follows q phase cost)) (λ e. none)
  pulled_clients q reply arrived run next servers reported is next_is none = untouched arrived run next reported is (ap (λ (r : Run T). r.counting) next_is) (ap (λ (r : Run T). r.clients) next_is) none

  -- the one that was found for an id that is the client's
  the_same : (run : Run T) (client : ClientId) (c d : Client) → client ≡ id → client_in run client ≡ Some c → client_in run id ≡ Some d → c ≡ d
  the_same run client c d same found there = same_Some c d (sym found ∙ ap (client_in run) same ∙ there)

  abbrev reported_by : Run T → CoreEvent → Answer T → List (Event T)
  reported_by run e answer = recorded_events (is_server s (server_named e)) (queue_command run e) answer

  accepted : (arrived : List Params) (run : Run T) (e : CoreEvent) (x : Run T × CoreReply T) → AreFollowed arrived run → Gives ops run e x → AreFollowed (more arrived (reported_by run e (Ok x.1))) x.0
  accepted arrived run (Stamp client q token cost) x is g =
      let m : Message = record { token = token; params = demanded run.counting q cost g.client.list } in
      let reported = reported_by run (Stamp client q token cost) (Ok x.1) in
      let none = ap (arrivals id) (nothing_handed (is_server s q) (Ok x.1)) in
      changed arrived run x.0 reported client (λ old. after_stamp q m g.client) is (ap (λ (y : Run T × CoreReply T). y.0.counting) g.is) (ap (λ (y : Run T × CoreReply T). y.0.clients) g.is)
      (λ y h. found_passes (λ (z : Client). is_client client z.id) run.clients g.client g.found)
      (λ same c found follows.
      let one = the_same run client g.client c same g.found found in
      let due : m.params ≡ demanded counting q cost g.client.list = ap (λ k. demanded k q cost g.client.list) is.form in
      subst (λ ps. IsFollowed counting s ps (after_stamp q m g.client)) (sym (nothing_more arrived reported none)) (stamp_follows counting s arrived g.client (subst (IsFollowed counting s arrived) (sym one) follows) q m cost due))
      (λ e. none)
  accepted arrived run (Respond client q phase cost) x is g =
      let reported = reported_by run (Respond client q phase cost) (Ok x.1) in
      let none = ap (arrivals id) (nothing_handed (is_server s q) (Ok x.1)) in
      changed arrived run x.0 reported client (λ old. after_response q phase cost g.client) is (ap (λ (y : Run T × CoreReply T). y.0.counting) g.is) (ap (λ (y : Run T × CoreReply T). y.0.clients) g.is)
      (λ y h. found_passes (λ (z : Client). is_client client z.id) run.clients g.client g.found)
      (λ same c found follows.
      let one = the_same run client g.client c same g.found found in
      subst (λ ps. IsFollowed counting s ps (after_response q phase cost g.client)) (sym (nothing_more arrived reported none)) (response_follows counting s arrived g.client (subst (IsFollowed counting s arrived) (sym one) follows) q phase cost))
      (λ e. none)
  accepted arrived run (Arrive client q at) x is g =
      let m = g.message in
      let reply = (step ops g.state (commands.Add client m.token m.params at)).1 in
      let oldest_is : oldest run client q ≡ Some m = ap (option_and_then (λ c. slice_get (pair_at q c.pairs).flight 0)) g.found ∙ g.first in
      let handed_is : queue_command run (Arrive client q at) ≡ Some (commands.Add client m.token m.params at) = ap (option_map (λ n. commands.Add client n.token n.params at)) oldest_is in
      let reported_is : reported_by run (Arrive client q at) (Ok x.1) ≡ recorded_events (is_server s q) (Some (commands.Add client m.token m.params at)) (Ok (Served reply)) =
      ap (λ o. recorded_events (is_server s q) o (Ok x.1)) handed_is ∙ ap (λ (y : Run T × CoreReply T). recorded_events (is_server s q) (Some (commands.Add client m.token m.params at)) (Ok y.1)) g.is in
      subst (λ reported. AreFollowed (more arrived reported) x.0) (sym reported_is)
      (changed arrived run x.0 (recorded_events (is_server s q) (Some (commands.Add client m.token m.params at)) (Ok (Served reply))) client (λ old. client_after_arrival q reply g.client) is (ap (λ (y : Run T × CoreReply T). y.0.counting) g.is) (ap (λ (y : Run T × CoreReply T). y.0.clients) g.is)
      (λ y h. found_passes (λ (z : Client). is_client client z.id) run.clients g.client g.found)
      (λ same c found follows.
      let one = the_same run client g.client c same g.found found in
      subst (λ (k : ClientId). IsFollowed counting s (more arrived (recorded_events (is_server s q) (Some (commands.Add k m.token m.params at)) (Ok (Served reply)))) (client_after_arrival q reply g.client)) (sym same)
      (arrival_follows counting s arrived g.client (subst (IsFollowed counting s arrived) (sym one) follows) id q m at g.first reply))
      (λ e. no_arrival (is_server s q) (commands.Add client m.token m.params at) (Ok (Served reply)) (λ r. no_other client m at r e)))
  accepted arrived run (Pull q at) x is g =
      pulled_clients q ((step ops g.state (commands.Pull at)).1) arrived run x.0 ((with_server q ((step ops g.state (commands.Pull at)).0) run).servers) (reported_by run (Pull q at) (Ok x.1)) is (ap (λ (y : Run T × CoreReply T). y.0) g.is)
      (no_arrival (is_server s q) (commands.Pull at) (Ok x.1) (λ r. refl))
  accepted arrived run (Update q client info at) x is g = untouched arrived run x.0 (reported_by run (Update q client info at) (Ok x.1)) is (ap (λ (y : Run T × CoreReply T). y.0.counting) g.is) (ap (λ (y : Run T × CoreReply T). y.0.clients) g.is) (no_arrival (is_server s q) (commands.Update client info at) (Ok x.1) (λ r. refl))
  accepted arrived run (Remove q client) x is g = untouched arrived run x.0 (reported_by run (Remove q client) (Ok x.1)) is (ap (λ (y : Run T × CoreReply T). y.0.counting) g.is) (ap (λ (y : Run T × CoreReply T). y.0.clients) g.is) (no_arrival (is_server s q) (commands.Remove client) (Ok x.1) (λ r. refl))
  accepted arrived run (Cancel q client token) x is g = untouched arrived run x.0 (reported_by run (Cancel q client token) (Ok x.1)) is (ap (λ (y : Run T × CoreReply T). y.0.counting) g.is) (ap (λ (y : Run T × CoreReply T). y.0.clients) g.is) (no_arrival (is_server s q) (commands.Cancel client token run.counting) (Ok x.1) (λ r. refl))
  accepted arrived run (Clean q at) x is g = untouched arrived run x.0 (reported_by run (Clean q at) (Ok x.1)) is (ap (λ (y : Run T × CoreReply T). y.0.counting) g.is) (ap (λ (y : Run T × CoreReply T). y.0.clients) g.is) (no_arrival (is_server s q) (commands.Clean at) (Ok x.1) (λ r. refl))

  event_follows : (arrived : List Params) (run : Run T) (e : CoreEvent) → AreFollowed arrived run → AreFollowed (more arrived (reported_by run e ((cluster_step ops run e).1))) ((cluster_step ops run e).0)
  event_follows arrived run e is = step_goes ops run e (λ p. AreFollowed (more arrived (reported_by run e p.1)) p.0)
      (λ fault. untouched arrived run run (reported_by run e (Err fault)) is refl refl (ap (arrivals id) (nothing_refused (is_server s (server_named e)) (queue_command run e) fault)))
      (λ x given. accepted arrived run e x is (gives ops run e x given))

  events_follow : (arrived : List Params) (run : Run T) (es : List CoreEvent) → AreFollowed arrived run → AreFollowed (more arrived (history_from ops s run es)) (run_after ops run es)
  events_follow arrived run [] is = subst (λ ps. AreFollowed ps run) (sym (append-nil arrived)) is
  events_follow arrived run (e ∷ es) is =
      let now = reported_by run e ((cluster_step ops run e).1) in
      let next = (cluster_step ops run e).0 in
      let later = history_from ops s next es in
      let rest = events_follow (more arrived now) next es (event_follows arrived run e is) in
      let joined : more (more arrived now) later ≡ more arrived (now ++ later) =
      append_assoc arrived (params_of (arrivals id now)) (params_of (arrivals id later))
      ∙ ap (λ ps. arrived ++ ps) (sym (ap params_of (arrivals-append id now later) ∙ map-append (λ (a : Arrival). a.params) (arrivals id now) (arrivals id later))) in
      subst (λ ps. AreFollowed ps (run_after ops next es)) joined rest

-- ---- from the opening

module _ (id : ClientId) (n : ℕ) where
  abbrev opened : ClientId × Rates → Client
  opened c = record { id = c.0; list = []; pairs = replicate n no_pair }

  opened_client : (cs : List (ClientId × Rates)) (c : Client) → find (λ x. is_client id x.id) (map opened cs) ≡ Some c → (c.list ≡ []) × (c.pairs ≡ replicate n no_pair)
  opened_client [] c e = cc
  opened_client (d ∷ cs) c e = by (is_client id d.0) e (opened_client cs c)
    where
      by : (b : Bool) → cond b (Some (opened d)) (find (λ x. is_client id x.id) (map opened cs)) ≡ Some c → (find (λ x. is_client id x.id) (map opened cs) ≡ Some c → (c.list ≡ []) × (c.pairs ≡ replicate n no_pair)) → (c.list ≡ []) × (c.pairs ≡ replicate n no_pair)
      by true e more = let same = same_Some (opened d) c e in (ap (λ (x : Client). x.list) (sym same), ap (λ (x : Client). x.pairs) (sym same))
      by false e more = more e

module _ {T : Type 0} (ops : Tagging T) (scene : SceneValue) (id : ClientId) (s : ServerId) (within : s.0 < scene.servers) where
  opening_follows : AreFollowed ops scene.counting id s [] (opening_of ops scene)
  opening_follows = record {
    form = refl;
    each = λ c found.
        let is = opened_client id scene.servers (map named_rates scene.clients) c found in
        record {
          tracked = subst (IsTracked scene.counting) (sym is.0) (IsTracked-nil scene.counting);
          unskipped = ap (skips s) is.0;
          paired = let long = ap length is.1 ∙ length-replicate scene.servers no_pair in omega (arith, long, within);
          stamps =
              ap (λ ps. map (λ (m : Message). m.params) (pair_at s ps).flight) is.1
              ∙ ap (λ (y : Pair). map (λ (m : Message). m.params) y.flight) (get_or-replicate scene.servers s.0 no_pair no_pair within)
              ∙ sym (ap (stamps_to s) is.0);
        };
  }

  registered_none : (u : State T) (cs : List (ClientId × Rates)) → arrivals id (registrations ops u cs) ≡ []
  registered_none u [] = refl
  registered_none u (c ∷ cs) = registered_none ((step ops u (registration c)).0) cs

  pub follows : (events : List CoreEvent) → AreFollowed ops scene.counting id s (params_of (arrivals id (history ops scene s events))) (run_of ops scene events)
  follows events =
      let later = history_from ops s (opening_of ops scene) events in
      let same : arrivals id (history ops scene s events) ≡ arrivals id later =
      arrivals-append id (registrations ops (opening ops scene.config) (map named_rates scene.clients)) later
      ∙ ap (λ qs. qs ++ arrivals id later) (registered_none (opening ops scene.config) (map named_rates scene.clients)) in
      subst (λ qs. AreFollowed ops scene.counting id s (params_of qs) (run_of ops scene events)) (sym same) (events_follow ops scene.counting id s [] (opening_of ops scene) events opening_follows)

pub arrivals_follow : {T : Type 0} (ops : Tagging T) → ArrivalsFollowStamps ops
arrivals_follow ops = λ scene id s events c within found. ((follows ops scene id s within events).each c found).stamps
