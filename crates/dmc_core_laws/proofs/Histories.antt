-- The history of a server replays, and gives its plain state.
use Rattle.std.proofs.Common.{◌≡◌, ℕ, zero, suc, ◌<◌, Bool, true, false, List, [], ◌∷◌, ◌++◌, map, set, slice_get, replicate, Option, Some, None, Ok, Err, refl, sym, ap, ◌∙◌, arith}
use Rattle.std.specs.Option.{option_map, option_and_then}
use Rattle.std.proofs.lemmas.Bool.{eqb-true, eqb-false}
use Rattle.dmc_types.specs.Values.{Rates}
use Rattle.dmc_types.specs.declared.ids.ClientId.{ClientId}
use Rattle.dmc_types.specs.declared.ids.ServerId.{ServerId}
use Rattle.dmc_types.specs.declared.command.Command.{Command}
use Rattle.dmc_types.specs.declared.command.Command.TheVariants as commands
use Rattle.dmc_tag.specs.Tag.{Tagging}
use Rattle.dmc_tag.specs.State.{State, opening}
use Rattle.dmc_tag.specs.Step.{step}
use Rattle.dmc_tag.specs.Replay.{replays_from, state_after}
use Rattle.dmc_tag.specs.declared.event.Event.{Event}
use Rattle.dmc_tag.specs.declared.reply.Reply.{Reply}
use Rattle.dmc_tag.specs.declared.reply.Reply.TheVariants.{Granted}
use Rattle.dmc_core.specs.declared.event.CoreEvent.{CoreEvent}
use Rattle.dmc_core.specs.declared.event.CoreEvent.TheVariants.{Stamp, Arrive, Pull, Respond, Update, Remove, Cancel, Clean}
use Rattle.dmc_core.specs.declared.event.CoreReply.{CoreReply}
use Rattle.dmc_core.specs.declared.event.CoreReply.TheVariants.{Served}
use Rattle.dmc_core.specs.declared.event.CoreFault.{CoreFault}
use Rattle.dmc_core.specs.Run.{Run, pair_at}
use Rattle.dmc_core.specs.Events.{cluster_step, after_pull, registration, run_after}
use Rattle.dmc_core.specs.Opening.{named_rates, opening_of}
use Rattle.dmc_core_laws.specs.Histories.{Answer, is_server, server_named, queue_command, recorded_events, registrations, history_from, oldest, HistoriesReplay}
use Rattle.dmc_core_laws.proofs.Given.{step_goes, Gives, gives}
use Rattle.std.proofs.lemmas.Option.{same_Some, slice_get_within}
use Rattle.dmc_lemmas.proofs.Lists.{slice_get-set_same, slice_get-set_other}

-- ---- lists

at_replicate : {A : Type 0} (n i : ℕ) (x : A) → i < n → slice_get (replicate n x) i ≡ Some x
at_replicate zero i x within = absurd (omega (arith, within))
at_replicate (suc n) zero x within = refl
at_replicate (suc n) (suc i) x within = at_replicate n i x (omega (arith, within))

-- ---- what is recorded

pub nothing_refused : {T : Type 0} (here : Bool) (command : Option Command) (fault : CoreFault) → recorded_events {T = T} here command (Err fault) ≡ []
nothing_refused true None fault = refl
nothing_refused true (Some command) fault = refl
nothing_refused false command fault = refl

pub nothing_handed : {T : Type 0} (here : Bool) (answer : Answer T) → recorded_events here None answer ≡ []
nothing_handed true answer = refl
nothing_handed false answer = refl

-- a pull leaves the servers to its queue
pub pull_leaves_servers : {T : Type 0} (s : ServerId) (reply : Reply T) (run : Run T) → (after_pull s reply run).servers ≡ run.servers
pull_leaves_servers s (Granted client token phase beyond cost) run = refl
pull_leaves_servers s reply run = refl

abbrev pub commands_of : {T : Type 0} → List (Event T) → List Command
commands_of events = map (λ e. e.command) events

module _ {T : Type 0} (ops : Tagging T) where
  -- what was recorded of s from the state u on replays, and gives the plain state of s in the run
  pub record Recorded (s : ServerId) (u : State T) (reported : List (Event T)) (next : Run T) : Type 0 where
    pub replays_recorded : replays_from ops u reported
    pub state_is : slice_get next.servers s.0 ≡ Some (state_after ops u (commands_of reported))

  pub replays_both : (u : State T) (xs ys : List (Event T)) → replays_from ops u xs → replays_from ops (state_after ops u (commands_of xs)) ys → replays_from ops u (xs ++ ys)
  replays_both u [] ys a b = b
  replays_both u (x ∷ xs) ys a b = (a.0, replays_both ((step ops u x.command).0) xs ys a.1 b)

  pub state_both : (u : State T) (xs ys : List (Event T)) → state_after ops u (commands_of (xs ++ ys)) ≡ state_after ops (state_after ops u (commands_of xs)) (commands_of ys)
  state_both u [] ys = refl
  state_both u (x ∷ xs) ys = state_both ((step ops u x.command).0) xs ys

  module _ (s : ServerId) (u : State T) (run : Run T) (here : slice_get run.servers s.0 ≡ Some u) where
    quiet : (reported : List (Event T)) (next : Run T) → reported ≡ [] → next.servers ≡ run.servers → Recorded s u reported next
    quiet reported next none same = rw none (record { replays_recorded = tt; state_is = ap (λ us. slice_get us s.0) same ∙ here })

    -- a command to the queue of a server
    served : (server : ServerId) (command : Command) (old : State T) (handed_is : Option Command) (next : Run T) (reply : Reply T) → slice_get run.servers server.0 ≡ Some old → handed_is ≡ Some command
        → reply ≡ (step ops old command).1 → next.servers ≡ set run.servers server.0 ((step ops old command).0) → Recorded s u (recorded_events (is_server s server) handed_is (Ok (Served reply))) next
    served server command old handed_is next reply found asked reply_is servers_are = by (is_server s server) refl where
      by : (b : Bool) → is_server s server ≡ b → Recorded s u (recorded_events b handed_is (Ok (Served reply))) next
      by true e =
          let place : server.0 ≡ s.0 = eqb-true server.0 s.0 e in
          let same : old ≡ u = same_Some old u (sym found ∙ ap (slice_get run.servers) place ∙ here) in
          rw asked (record {
            replays_recorded = (reply_is ∙ ap (λ (v : State T). (step ops v command).1) same, tt);
            state_is =
                ap (λ us. slice_get us s.0) servers_are ∙ ap (slice_get (set run.servers server.0 _)) (sym place) ∙ slice_get-set_same run.servers server.0 _ (slice_get_within run.servers server.0 old found)
                ∙ ap (λ (v : State T). Some ((step ops v command).0)) same;
          })
      by false e = record { replays_recorded = tt; state_is = ap (λ us. slice_get us s.0) servers_are ∙ slice_get-set_other run.servers server.0 s.0 _ (λ same. eqb-false server.0 s.0 e (sym same)) ∙ here }

  -- one event
  pub accepted : (s : ServerId) (u : State T) (run : Run T) → slice_get run.servers s.0 ≡ Some u → (e : CoreEvent) (x : Run T × CoreReply T) → Gives ops run e x
      → Recorded s u (recorded_events (is_server s (server_named e)) (queue_command run e) (Ok x.1)) x.0
  accepted s u run here (Stamp id server token cost) x g = quiet s u run here _ x.0 (nothing_handed (is_server s server) (Ok x.1)) (ap (λ (y : Run T × CoreReply T). y.0.servers) g.is)
  accepted s u run here (Respond id server phase cost) x g = quiet s u run here _ x.0 (nothing_handed (is_server s server) (Ok x.1)) (ap (λ (y : Run T × CoreReply T). y.0.servers) g.is)
  accepted s u run here (Arrive id server at) x g =
      let oldest_is : oldest run id server ≡ Some g.message = ap (option_and_then (λ c. slice_get (pair_at server c.pairs).flight 0)) g.found ∙ g.first in
      rw g.is (served s u run here server (commands.Add id g.message.token g.message.params at) g.state (queue_command run (Arrive id server at)) _ _ g.state_is
      (ap (option_map (λ m. commands.Add id m.token m.params at)) oldest_is) refl refl)
  accepted s u run here (Pull server at) x g = rw g.is (served s u run here server (commands.Pull at) g.state (Some (commands.Pull at)) _ _ g.state_is refl refl (pull_leaves_servers server _ _))
  accepted s u run here (Update server id info at) x g = rw g.is (served s u run here server (commands.Update id info at) g.state (Some (commands.Update id info at)) _ _ g.state_is refl refl refl)
  accepted s u run here (Remove server id) x g = rw g.is (served s u run here server (commands.Remove id) g.state (Some (commands.Remove id)) _ _ g.state_is refl refl refl)
  accepted s u run here (Cancel server id token) x g = rw g.is (served s u run here server (commands.Cancel id token run.counting) g.state (Some (commands.Cancel id token run.counting)) _ _ g.state_is refl refl refl)
  accepted s u run here (Clean server at) x g = rw g.is (served s u run here server (commands.Clean at) g.state (Some (commands.Clean at)) _ _ g.state_is refl refl refl)

  reported : (s : ServerId) (u : State T) (run : Run T) (e : CoreEvent) → slice_get run.servers s.0 ≡ Some u
      → Recorded s u (recorded_events (is_server s (server_named e)) (queue_command run e) ((cluster_step ops run e).1)) ((cluster_step ops run e).0)
  reported s u run e here = step_goes ops run e (λ p. Recorded s u (recorded_events (is_server s (server_named e)) (queue_command run e) p.1) p.0)
      (λ fault. quiet s u run here _ run (nothing_refused (is_server s (server_named e)) (queue_command run e) fault) refl)
      (λ x is. accepted s u run here e x (gives ops run e x is))

  -- all events from a run on
  pub all_recorded : (s : ServerId) (u : State T) (run : Run T) (es : List CoreEvent) → slice_get run.servers s.0 ≡ Some u → Recorded s u (history_from ops s run es) (run_after ops run es)
  all_recorded s u run [] here = record { replays_recorded = tt; state_is = here }
  all_recorded s u run (e ∷ es) here =
      let now = recorded_events (is_server s (server_named e)) (queue_command run e) ((cluster_step ops run e).1) in
      let one = reported s u run e here in
      let rest = all_recorded s (state_after ops u (commands_of now)) ((cluster_step ops run e).0) es one.state_is in
      record {
        replays_recorded = replays_both u now _ one.replays_recorded rest.replays_recorded;
        state_is = rest.state_is ∙ ap (λ (v : State T). Some v) (sym (state_both u now _));
      }

  registrations_replay : (u : State T) (cs : List (ClientId × Rates)) → replays_from ops u (registrations ops u cs)
  registrations_replay u [] = tt
  registrations_replay u (c ∷ cs) = (refl, registrations_replay ((step ops u (registration c)).0) cs)

  registrations_are : (u : State T) (cs : List (ClientId × Rates)) → commands_of (registrations ops u cs) ≡ map registration cs
  registrations_are u [] = refl
  registrations_are u (c ∷ cs) = ap (λ xs. registration c ∷ xs) (registrations_are ((step ops u (registration c)).0) cs)

  pub histories_replay : HistoriesReplay ops
  histories_replay = λ scene s events within.
      let u = opening ops scene.config in
      let cs = map named_rates scene.clients in
      let registered = registrations ops u cs in
      let opened = at_replicate scene.servers s.0 (state_after ops u (map registration cs)) within ∙ ap (λ xs. Some (state_after ops u xs)) (sym (registrations_are u cs)) in
      let all = all_recorded s (state_after ops u (commands_of registered)) (opening_of ops scene) events opened in
      record {
        replays_all = replays_both u registered _ (registrations_replay u cs) all.replays_recorded;
        state_is = all.state_is ∙ ap (λ (v : State T). Some v) (sym (state_both u registered _));
      }
