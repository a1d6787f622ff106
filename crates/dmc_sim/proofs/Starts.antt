-- Before the first round nothing is sent and nothing is granted.
use Rattle.std.proofs.Common.{◌≡◌, ℕ, zero, suc, ◌+◌, List, [], ◌∷◌, length, get_or, map, refl, sym, ap, subst, arith}
use Rattle.std.specs.Prelude.{All, AllPairs}
use Rattle.std.specs.List.{range_with_len}
use Rattle.std.proofs.lemmas.List.FromFn.{get_or-map-range_with_len, length-map-range_with_len}
use Rattle.dmc_types.specs.declared.ids.ServerId.{ServerId}
use Rattle.dmc_tag.specs.Tag.{Tagging}
use Rattle.dmc_tag.specs.State.{State}
use Rattle.dmc_scene.specs.SceneValue.{SceneValue}
use Rattle.dmc_core.specs.Core.{CoreValue, RepresentsRun}
use Rattle.dmc_core.specs.Opening.{opening_of}
use Rattle.dmc_sim.specs.internal.Counts.{AreDifferent}
use Rattle.dmc_sim.specs.internal.Rows.{idle_row}
use Rattle.dmc_sim.specs.Simulation.{opening_sim, servers_of}
use Rattle.dmc_sim.specs.internal.Simulations.{AllAt, AreGrants}
use Rattle.dmc_sim.specs.internal.Turns.{IsIdle}
use Rattle.dmc_sim.specs.declared.client.SimClient.{SimClient}
use Rattle.dmc_sim.specs.declared.report.ServerReport.{ServerReport}

-- ---- the servers

idle_servers_from : (a n : ℕ) → map (λ (r : ServerReport). r.server) (map idle_row (range_with_len a n)) ≡ map (λ k. record { 0 = k }) (range_with_len a n)
idle_servers_from a zero = refl
idle_servers_from a (suc n) = ap (λ (ss : List ServerId). record { 0 = a } ∷ ss) (idle_servers_from (a + 1) n)

pub idle_servers_are : (scene : SceneValue) → map (λ (r : ServerReport). r.server) (map idle_row (range_with_len 0 scene.servers)) ≡ servers_of scene
idle_servers_are scene = idle_servers_from 0 scene.servers

-- no two of a scene's servers have one number
pub servers_differ : (scene : SceneValue) → AllPairs AreDifferent (servers_of scene)
servers_differ scene = λ i j d ij w e.
    let n : ServerId → ℕ = λ s. s.0 in
    let long : length (servers_of scene) ≡ scene.servers = length-map-range_with_len (λ k. record { 0 = k }) 0 scene.servers in
    let first : (get_or (servers_of scene) i d).0 ≡ i = ap n (get_or-map-range_with_len (λ k. record { 0 = k }) 0 scene.servers i i d (omega (arith, ij, w, long)) (omega arith)) in
    let second : (get_or (servers_of scene) j d).0 ≡ j = ap n (get_or-map-range_with_len (λ k. record { 0 = k }) 0 scene.servers j j d (omega (arith, w, long)) (omega arith)) in
    omega (arith, first, second, e, ij)

idle_grants : {T : Type 0} (a n : ℕ) → All (AreGrants {T = T} []) (map idle_row (range_with_len a n))
idle_grants a zero k d w = absurd (omega (arith, w))
idle_grants a (suc n) zero d w = record { reservation = refl; priority = refl }
idle_grants a (suc n) (suc k) d w = idle_grants (a + 1) n k d (omega (arith, w))

-- ---- all at the opening

pub at_opening : {T Q : Type 0} (ops : Tagging T) (state : Q → State T) (scene : SceneValue) (core : CoreValue Q) (clients : List SimClient) (rows : List ServerReport) → RepresentsRun state core (opening_of ops scene) → All (IsIdle scene) clients
    → rows ≡ map idle_row (range_with_len 0 scene.servers) → AllAt state scene core clients rows (opening_sim ops scene)
at_opening {T} ops state scene core clients rows represents idle are = record {
  at = record {
    run = represents;
    counted = λ k d w. let h = idle k d w in record { plan = h.plan; sent = h.sent; completed = h.completed; reservation = h.reservation };
  };
  grants = subst (All (AreGrants {T = T} [])) (sym are) (idle_grants 0 scene.servers);
}
