-- A client sends, by what its two events return.
use Rattle.std.proofs.Common.{◌≡◌, ℕ, ◌+◌, ◌<◌, get_or, drop, set, map, Result, Bool, true, false, List, [], ◌∷◌, ◌++◌, length, slice_get, nat_lt, Option, Some, None, refl, sym, ap, ◌∙◌, subst, arith, Err}
use Rattle.std.specs.Prelude.{◌&&◌, AllPairs, if◌then◌else◌}
use Rattle.std.proofs.lemmas.Bool.{eq-eqb, ltb-false}
use Rattle.std.proofs.lemmas.List.{get_or_default, length-map}
use Rattle.std.proofs.lemmas.Option.{slice_get_past}
use Rattle.dmc_types.specs.declared.ids.ClientId.{ClientId}
use Rattle.dmc_types.specs.declared.ids.ServerId.{ServerId}
use Rattle.dmc_types.specs.declared.refusal.Refusal.{Refusal}
use Rattle.dmc_tag.specs.Tag.{Tagging}
use Rattle.dmc_tag.specs.State.{State, is_client}
use Rattle.dmc_tag.specs.Outcome.{◌>>=◌}
use Rattle.dmc_scene.specs.SceneValue.{SceneValue, ClientValue, AreApart, cost_at}
use Rattle.dmc_core.specs.Core.{CoreValue, RepresentsRun}
use Rattle.dmc_core.specs.declared.event.CoreEvent.TheVariants.{Stamp, Arrive}
use Rattle.dmc_sim.specs.Simulation.{Entry, Sim, Returned, asked, is_tagged, plan_of, next_server, send_to, client_turn, each_in_turn}
use Rattle.dmc_sim.specs.internal.Simulations.{IsCounted, ClientsAt, Gives, IsAfter, has_next}
use Rattle.dmc_sim.specs.internal.Turns.{ClientAt}
use Rattle.dmc_sim.specs.declared.client.SimClient.{SimClient}
use Rattle.dmc_sim.proofs.Clients.{other_id, scene_at}
use Rattle.dmc_sim.proofs.Endings.{Reaches, all_with, turn_taken, turn_refused}
use Rattle.dmc_sim.proofs.TurnLemmas.{client_turn_counts}
use Rattle.dmc_sim.proofs.Traces.{one_if, entry, after_trace, same_counts, sent_more, completed_more, reserved_more, counted_as, still_counted}

-- the client after an arrival that returned this
pub record IsSent {T : Type 0} (returned : Returned T) (old new : SimClient) : Type 0 where
  pub scene : new.scene ≡ old.scene
  pub plan : new.plan.items ≡ old.plan.items
  pub sent : new.sent ≡ old.sent + (if is_tagged returned then 1 else 0)
  pub completed : new.completed ≡ old.completed
  pub reservation : new.reservation ≡ old.reservation

same_id : (id : ClientId) → is_client id id ≡ true
same_id id = eq-eqb id.0 id.0 refl

module _ {T : Type 0} (scene : SceneValue) (trace : List (Entry T)) (server : ServerId) (at : ℕ) (returned : Returned T) (old new : SimClient) (is : IsSent returned old new) (h : IsCounted scene trace old) where
  counted_arrival : IsCounted scene (trace ++ entry (Arrive old.scene.id server at) returned ∷ []) new
  counted_arrival =
      let id = old.scene.id in
      let e : Entry T = entry (Arrive id server at) returned in
      let more = sent_more trace e id in
      let test : one_if (is_client id id && is_tagged returned) ≡ one_if (is_tagged returned) = ap (λ b. one_if (b && is_tagged returned)) (same_id id) in
      counted_as scene (trace ++ e ∷ []) new old.scene is.scene (is.plan ∙ h.plan) (omega (arith, more, test, is.sent, h.sent)) (omega (arith, completed_more trace e id, is.completed, h.completed))
      (omega (arith, reserved_more trace e id, is.reservation, h.reservation))

module _ {T Q : Type 0} (ops : Tagging T) (state : Q → State T) (scene : SceneValue) (at : ℕ) (server : ServerId) (first second third : CoreValue Q) (old new : SimClient) (stamped arrived : Returned T) where
  -- if it stamps a request, and the request arrives
  pub sent_to : ((sim : Sim T) → RepresentsRun state first sim.run → Gives (asked ops (Stamp old.scene.id server (record { 0 = old.sent }) (cost_at old.scene.costs old.sent)) sim) (IsAfter ops state (Stamp old.scene.id server (record { 0 = old.sent }) (cost_at old.scene.costs old.sent)) sim second stamped))
      → ((sim : Sim T) → RepresentsRun state second sim.run → Gives (asked ops (Arrive old.scene.id server at) sim) (IsAfter ops state (Arrive old.scene.id server at) sim third arrived))
      → IsSent arrived old new → (sim : Sim T) → ClientAt state scene first old sim → Gives (send_to ops at old.scene (Some server) sim) (ClientAt state scene third new)
  sent_to stamps arrives is sim h =
      let id = old.scene.id in
      let one = stamps sim h.run in
      let two = arrives one.value one.holds.run in
      let arrive = λ (u : Sim T). asked ops (Arrive id server at) u in
      let stamp = λ (n : ℕ). asked ops (Stamp id server (record { 0 = n }) (cost_at old.scene.costs n)) sim in
      let before = after_trace ops state (Stamp id server (record { 0 = old.sent }) (cost_at old.scene.costs old.sent)) sim one.value second stamped one.holds in
      let after = after_trace ops state (Arrive id server at) one.value two.value third arrived two.holds in
      let still = subst (λ (t : List (Entry T)). IsCounted scene t old) (sym before) (still_counted scene sim.trace (sim.trace ++ entry (Stamp id server (record { 0 = old.sent }) (cost_at old.scene.costs old.sent)) stamped ∷ []) old (same_counts id sim.trace (entry (Stamp id server (record { 0 = old.sent }) (cost_at old.scene.costs old.sent)) stamped) refl refl refl) h.counted) in
      record {
        value = two.value;
        is = ap (λ (n : ℕ). stamp n >>= arrive) (sym h.counted.sent) ∙ ap (λ r. r >>= arrive) one.is ∙ two.is;
        holds = record {
          run = two.holds.run;
          counted = subst (λ (t : List (Entry T)). IsCounted scene t new) (sym after) (counted_arrival scene one.value.trace server at arrived old new is still);
        };
      }

no_more : {X : Type 0} (a b : Bool) (o : Option X) → (a && b) ≡ false → (b ≡ false → o ≡ None) → (if a then o else None) ≡ None
no_more true b o e past = past e
no_more false b o e past = refl

-- a client that has no next request sends none
pub none_next : {T : Type 0} (scene : SceneValue) (trace : List (Entry T)) (c : SimClient) → IsCounted scene trace c → has_next c ≡ false → next_server scene c.scene trace ≡ None
none_next scene trace c h e =
    rw (sym h.sent, sym h.completed) (no_more (nat_lt c.sent (c.completed + c.scene.window)) (nat_lt c.sent c.scene.requests) (slice_get (plan_of scene c.scene) c.sent) e
    (λ past. slice_get_past (plan_of scene c.scene) c.sent (
    let all = ltb-false c.sent c.scene.requests past in
    let long : length (plan_of scene c.scene) ≡ c.scene.requests = ap length (sym h.plan) ∙ sym c.plan.ok.0 ∙ c.planned in
    omega (arith, all, long)
    )))

-- the next request of a client is the one that its own counts say
pub some_next : {T : Type 0} (scene : SceneValue) (trace : List (Entry T)) (c : SimClient) (server : ServerId) → IsCounted scene trace c
    → (if nat_lt c.sent (c.completed + c.scene.window) then slice_get c.plan.items c.sent else None) ≡ Some server → next_server scene c.scene trace ≡ Some server
some_next scene trace c server h e = rw (sym h.sent, sym h.completed, sym h.plan) e

-- ---- among all clients

-- Client i has its turn, after those before it. All are the clients of the scene.
module _ {T Q : Type 0} (ops : Tagging T) (state : Q → State T) (scene : SceneValue) (at : ℕ) (core : CoreValue Q) (clients : List SimClient) (all : List ClientValue) (i : ℕ) (d : SimClient) (within : i < length clients)
    (scenes : map (λ c. c.scene) clients ≡ all) (apart : AllPairs AreApart all) (whole : Result (Sim T) Refusal) (r : Reaches whole (each_in_turn (client_turn ops scene at) (drop i all)) (ClientsAt state scene core clients)) where
  long : i < length all
  long = let e : length all ≡ length clients = ap length (sym scenes) ∙ length-map clients (λ (c : SimClient). c.scene) in omega (arith, e, within)

  turn_of : client_turn ops scene at (get_or all i d.scene) r.value ≡ client_turn ops scene at (get_or clients i d).scene r.value
  turn_of = ap (λ (c : ClientValue). client_turn ops scene at c r.value) (ap (λ ss. get_or ss i d.scene) (sym scenes) ∙ scene_at clients i d within)

  -- the client before its turn
  pub client_at : ClientAt state scene core (get_or clients i d) r.value
  client_at = record { run = r.holds.run; counted = r.holds.counted i d within }

  -- the turn is taken
  pub one_sent : (core' : CoreValue Q) (new : SimClient) → Gives (client_turn ops scene at (get_or clients i d).scene r.value) (ClientAt state scene core' new)
      → Reaches whole (each_in_turn (client_turn ops scene at) (drop (i + 1) all)) (ClientsAt state scene core' (set clients i new))
  one_sent core' new given = turn_taken (client_turn ops scene at) all i d.scene long whole (ClientsAt state scene core clients) r (ClientsAt state scene core' (set clients i new)) (record {
    value = given.value;
    is = turn_of ∙ given.is;
    holds = record {
      run = given.holds.run;
      counted = all_with (IsCounted scene given.value.trace) clients i new given.holds.counted (λ k e w ne.
          let other = other_id clients (subst (AllPairs AreApart) (sym scenes) apart) k i d w within ne in
          let same : get_or clients k d ≡ get_or clients k e = get_or_default clients k d e w in
          let apart_from : is_client (get_or clients k e).scene.id (get_or clients i d).scene.id ≡ false = subst (λ (c : SimClient). is_client c.scene.id (get_or clients i d).scene.id ≡ false) same other in
          still_counted scene r.value.trace given.value.trace (get_or clients k e) (client_turn_counts ops scene at (get_or clients i d).scene r.value given.value given.is (get_or clients k e).scene.id apart_from) (r.holds.counted k e w));
    };
  })

  -- it is refused
  pub one_refused : (refusal : Refusal) → client_turn ops scene at (get_or clients i d).scene r.value ≡ Err refusal → whole ≡ Err refusal
  one_refused refusal e = turn_refused (client_turn ops scene at) all i d.scene long whole (ClientsAt state scene core clients) r refusal (turn_of ∙ e)
