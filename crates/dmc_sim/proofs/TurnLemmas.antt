-- What a turn leaves as it was: it counts nothing for another client, and no grant of another server.
use Rattle.std.proofs.Common.{◌≡◌, ℕ, false, List, [], ◌∷◌, Option, Some, None, refl, sym, subst, Ok}
use Rattle.std.proofs.lemmas.Bool.{and_left}
use Rattle.dmc_types.specs.declared.ids.ClientId.{ClientId}
use Rattle.dmc_types.specs.declared.ids.ServerId.{ServerId}
use Rattle.dmc_types.specs.declared.config.PhaseType.{PhaseType}
use Rattle.dmc_tag.specs.Tag.{Tagging}
use Rattle.dmc_tag.specs.State.{is_client}
use Rattle.dmc_scene.specs.SceneValue.{SceneValue, ClientValue, cost_at}
use Rattle.dmc_core.specs.declared.event.CoreEvent.{CoreEvent}
use Rattle.dmc_core.specs.declared.event.CoreEvent.TheVariants.{Stamp, Arrive, Pull, Respond}
use Rattle.dmc_core.specs.Events.{cluster_step}
use Rattle.dmc_sim.specs.declared.ask.Grant.{Grant}
use Rattle.dmc_sim.specs.Simulation.{Entry, Sim, entry_of, asked, grant_in, is_arrival, is_completion, is_reserved, is_grant, is_server, sent_by, next_server, send_to, client_turn, respond_to, server_turn, each_in_turn}
use Rattle.dmc_sim.proofs.Traces.{SameCounts, SameGrants, asked_trace, chained, same_counts, same_grants, counts_both, grants_both, counts_stay, grants_stay}

module _ {T : Type 0} (ops : Tagging T) where
  module _ (event : CoreEvent) (sim next : Sim T) (e : asked ops event sim ≡ Ok next) where
    asked_counts : (id : ClientId) → is_arrival id event ((cluster_step ops sim.run event).1) ≡ false → is_completion id event ((cluster_step ops sim.run event).1) ≡ false → is_reserved id event ((cluster_step ops sim.run event).1) ≡ false
        → SameCounts id sim.trace next.trace
    asked_counts id a b c = subst (λ (t : List (Entry T)). SameCounts id sim.trace t) (sym (asked_trace ops event sim next e)) (same_counts id sim.trace (entry_of ops event sim) a b c)

    pub asked_grants : (s : ServerId) → ((phase : PhaseType) → is_grant s phase event ((cluster_step ops sim.run event).1) ≡ false) → SameGrants s sim.trace next.trace
    asked_grants s none = subst (λ (t : List (Entry T)). SameGrants s sim.trace t) (sym (asked_trace ops event sim next e)) (same_grants s sim.trace (entry_of ops event sim) none)

  -- ---- the turn of a client

  sending_counts : (at : ℕ) (c : ClientValue) (o : Option ServerId) (sim next : Sim T) → send_to ops at c o sim ≡ Ok next → (id : ClientId) → is_client id c.id ≡ false → SameCounts id sim.trace next.trace
  sending_counts at c None sim next e id other = let same : sim ≡ next = cc in subst (λ (s : Sim T). SameCounts id sim.trace s.trace) same (counts_stay id sim.trace)
  sending_counts at c (Some server) sim next e id other =
      let l = chained (asked ops (Stamp c.id server (record { 0 = sent_by c.id sim.trace }) (cost_at c.costs (sent_by c.id sim.trace))) sim) (λ (stamped : Sim T). asked ops (Arrive c.id server at) stamped) next e in
      counts_both (asked_counts (Stamp c.id server (record { 0 = sent_by c.id sim.trace }) (cost_at c.costs (sent_by c.id sim.trace))) sim l.first l.is id refl refl refl) (asked_counts (Arrive c.id server at) l.first next l.rest id (and_left _ _ other) refl refl)

  sending_grants : (at : ℕ) (c : ClientValue) (o : Option ServerId) (sim next : Sim T) → send_to ops at c o sim ≡ Ok next → (s : ServerId) → SameGrants s sim.trace next.trace
  sending_grants at c None sim next e s = let same : sim ≡ next = cc in subst (λ (u : Sim T). SameGrants s sim.trace u.trace) same (grants_stay s sim.trace)
  sending_grants at c (Some server) sim next e s =
      let l = chained (asked ops (Stamp c.id server (record { 0 = sent_by c.id sim.trace }) (cost_at c.costs (sent_by c.id sim.trace))) sim) (λ (stamped : Sim T). asked ops (Arrive c.id server at) stamped) next e in
      grants_both (asked_grants (Stamp c.id server (record { 0 = sent_by c.id sim.trace }) (cost_at c.costs (sent_by c.id sim.trace))) sim l.first l.is s (λ phase. refl)) (asked_grants (Arrive c.id server at) l.first next l.rest s (λ phase. refl))

  pub client_turn_counts : (scene : SceneValue) (at : ℕ) (c : ClientValue) (sim next : Sim T) → client_turn ops scene at c sim ≡ Ok next → (id : ClientId) → is_client id c.id ≡ false → SameCounts id sim.trace next.trace
  client_turn_counts scene at c sim next e id other = sending_counts at c (next_server scene c sim.trace) sim next e id other

  pub client_turns_grants : (scene : SceneValue) (at : ℕ) (cs : List ClientValue) (sim next : Sim T) → each_in_turn (client_turn ops scene at) cs sim ≡ Ok next → (s : ServerId) → SameGrants s sim.trace next.trace
  client_turns_grants scene at [] sim next e s = let same : sim ≡ next = cc in subst (λ (u : Sim T). SameGrants s sim.trace u.trace) same (grants_stay s sim.trace)
  client_turns_grants scene at (c ∷ cs) sim next e s =
      let l = chained (client_turn ops scene at c sim) (λ (u : Sim T). each_in_turn (client_turn ops scene at) cs u) next e in
      grants_both (sending_grants at c (next_server scene c sim.trace) sim l.first l.is s) (client_turns_grants scene at cs l.first next l.rest s)

  -- ---- the turn of a server

  responding_grants : (at : ServerId) (o : Option Grant) (sim next : Sim T) → respond_to ops at o sim ≡ Ok next → (s : ServerId) → SameGrants s sim.trace next.trace
  responding_grants at None sim next e s = let same : sim ≡ next = cc in subst (λ (u : Sim T). SameGrants s sim.trace u.trace) same (grants_stay s sim.trace)
  responding_grants at (Some grant) sim next e s = asked_grants (Respond grant.client at grant.phase grant.cost) sim next e s (λ phase. refl)

  pub server_turn_grants : (at : ℕ) (server : ServerId) (sim next : Sim T) → server_turn ops at server sim ≡ Ok next → (s : ServerId) → is_server s server ≡ false → SameGrants s sim.trace next.trace
  server_turn_grants at server sim next e s other =
      let grant = grant_in ((cluster_step ops sim.run (Pull server at)).1) in
      let l = chained (asked ops (Pull server at) sim) (λ (u : Sim T). respond_to ops server grant u) next e in
      grants_both (asked_grants (Pull server at) sim l.first l.is s (λ phase. and_left _ _ other)) (responding_grants server grant l.first next l.rest s)
