-- A round, and how rounds end.
use Rattle.std.proofs.Common.{◌≡◌, ℕ, zero, suc, ◌+◌, ◌-◌, ◌<◌, Bool, true, false, List, [], ◌∷◌, get_or, map, refl, sym, ap, ◌∙◌, arith, Ok, Err}
use Rattle.std.specs.Prelude.{◌==◌, ◌&&◌, All, Result}
use Rattle.std.specs.List.{list_all}
use Rattle.std.proofs.lemmas.List.Folds.{list_all-map}
use Rattle.dmc_types.specs.declared.ids.ServerId.{ServerId}
use Rattle.dmc_types.specs.declared.refusal.Refusal.{Refusal}
use Rattle.dmc_tag.specs.Tag.{Tagging}
use Rattle.dmc_tag.specs.State.{State}
use Rattle.dmc_tag.specs.Outcome.{◌>>=◌}
use Rattle.dmc_scene.specs.SceneValue.{SceneValue, ClientValue}
use Rattle.dmc_core.specs.Core.{CoreValue}
use Rattle.dmc_sim.specs.Reports.{end_of}
use Rattle.dmc_sim.specs.Simulation.{Entry, Sim, completed_by, all_complete, client_turn, server_turn, each_in_turn, servers_of, moment_of, round, rounds}
use Rattle.dmc_sim.specs.internal.Simulations.{IsCounted, ClientsAt, AllAt, Ends, Gives, is_complete}
use Rattle.dmc_sim.specs.declared.client.SimClient.{SimClient}
use Rattle.dmc_sim.specs.declared.report.ServerReport.{ServerReport}
use Rattle.dmc_sim.specs.declared.report.SimFault.{SimFault}
use Rattle.dmc_sim.proofs.Endings.{Reaches, ends_as}
use Rattle.dmc_sim.proofs.TurnLemmas.{client_turns_grants}
use Rattle.dmc_sim.proofs.Traces.{still_granted}

-- ---- one round

-- at its moment, of the clients and the servers of the scene
module _ {T Q : Type 0} (ops : Tagging T) (state : Q → State T) (scene : SceneValue) (k at : ℕ) (at_is : at ≡ moment_of scene k) (cs : List ClientValue) (cs_are : cs ≡ scene.clients) (ss : List ServerId) (ss_are : ss ≡ servers_of scene) (sim : Sim T) where
  round_is : round ops scene k sim ≡ (each_in_turn (client_turn ops scene at) cs sim >>= λ (sent : Sim T). each_in_turn (server_turn ops at) ss sent)
  round_is = rw (at_is, cs_are, ss_are) refl

  -- its first part is refused
  pub first_refused : (refusal : Refusal) → each_in_turn (client_turn ops scene at) cs sim ≡ Err refusal → round ops scene k sim ≡ Err refusal
  first_refused refusal e = round_is ∙ ap (λ r. r >>= λ (sent : Sim T). each_in_turn (server_turn ops at) ss sent) e

  module _ (core core' : CoreValue Q) (clients clients' : List SimClient) (rows : List ServerReport) (h : AllAt state scene core clients rows sim) (sent : Gives (each_in_turn (client_turn ops scene at) cs sim) (ClientsAt state scene core' clients')) where
    -- between its parts
    pub all_sent : AllAt state scene core' clients' rows sent.value
    all_sent = record {
      at = sent.holds;
      grants = λ i d w. still_granted sim.trace sent.value.trace (get_or rows i d) (client_turns_grants ops scene at cs sim sent.value sent.is (get_or rows i d).server) (h.grants i d w);
    }

    -- how its second part ends
    pub second_ends : {A : Type 0} (P : Sim T → Type 0) (result : Result A SimFault) → Ends (each_in_turn (server_turn ops at) ss sent.value) (λ x. P) result → Ends (round ops scene k sim) (λ x. P) result
    second_ends P result h =
        ends_as (each_in_turn (server_turn ops at) ss sent.value) (round ops scene k sim) (λ x. P) (λ x. P) result (round_is ∙ ap (λ r. r >>= λ (v : Sim T). each_in_turn (server_turn ops at) ss v) sent.is) (λ x v e p. p) h

-- ---- all requests are completed

abbrev is_done : {T : Type 0} → List (Entry T) → ClientValue → Bool
is_done trace c = completed_by c.id trace == c.requests

each_complete : {T : Type 0} (scene : SceneValue) (trace : List (Entry T)) (cs : List SimClient) → All (IsCounted scene trace) cs → list_all is_complete cs ≡ list_all (λ (c : SimClient). is_done trace c.scene) cs
each_complete scene trace [] all = refl
each_complete scene trace (c ∷ cs) all =
    let mine = all 0 c (omega arith) in
    let rest = each_complete scene trace cs (λ i d w. all (suc i) d (omega (arith, w))) in
    ap (λ n. (n == c.scene.requests) && list_all is_complete cs) mine.completed ∙ ap (λ b. is_done trace c.scene && b) rest

pub all_complete_is : {T : Type 0} (scene : SceneValue) (trace : List (Entry T)) (clients : List SimClient) → map (λ c. c.scene) clients ≡ scene.clients → All (IsCounted scene trace) clients → list_all is_complete clients ≡ all_complete scene trace
all_complete_is scene trace clients scenes h = each_complete scene trace clients h ∙ sym (list_all-map (is_done trace) (λ (c : SimClient). c.scene) clients) ∙ ap (list_all (is_done trace)) scenes

-- ---- rounds

pub end_after : (scene : SceneValue) (k : ℕ) → end_of scene (k + 1) ≡ moment_of scene k
end_after scene k = let one : k + 1 ≡ suc k = omega arith in ap (end_of scene) one

module _ {T : Type 0} (ops : Tagging T) (scene : SceneValue) where
  pub rounds_done : (n k : ℕ) (u : Sim T) → all_complete scene u.trace ≡ true → rounds ops scene n k u ≡ Ok (k, u)
  rounds_done zero k u e = refl
  rounds_done (suc n) k u e = rw (e, rounds) refl

  goes_on : (n k : ℕ) (u : Sim T) → all_complete scene u.trace ≡ false → rounds ops scene (suc n) k u ≡ (round ops scene k u >>= λ (v : Sim T). rounds ops scene n (k + 1) v)
  goes_on n k u e = rw (e, rounds) refl

  module _ (max k : ℕ) (within : k < max) (whole : Result (ℕ × Sim T) Refusal) (P : Sim T → Type 0) (r : Reaches whole (rounds ops scene (max - k) k) P) (incomplete : all_complete scene r.value.trace ≡ false) where
    here : whole ≡ (round ops scene k r.value >>= λ (v : Sim T). rounds ops scene (max - (k + 1)) (k + 1) v)
    here =
        let one : max - k ≡ suc (max - (k + 1)) = omega arith in
        r.is ∙ ap (λ n. rounds ops scene n k r.value) one ∙ goes_on (max - (k + 1)) k r.value incomplete

    -- the next round is made
    pub round_made : (Q : Sim T → Type 0) → Gives (round ops scene k r.value) Q → Reaches whole (rounds ops scene (max - (k + 1)) (k + 1)) Q
    round_made Q given = record { value = given.value; is = here ∙ ap (λ v. v >>= λ (w : Sim T). rounds ops scene (max - (k + 1)) (k + 1) w) given.is; holds = given.holds }

    -- it is refused
    pub round_refused : (refusal : Refusal) → round ops scene k r.value ≡ Err refusal → whole ≡ Err refusal
    round_refused refusal e = here ∙ ap (λ v. v >>= λ (w : Sim T). rounds ops scene (max - (k + 1)) (k + 1) w) e
