-- The clients up to now have had their turns, and the rest of them end as all do.
use Rattle.std.proofs.Common.{◌≡◌, ℕ, drop, length, map}
use Rattle.dmc_pull.specs.Queue.{state_of}
use Rattle.dmc_scene.specs.SceneValue.{SceneValue}
use Rattle.dmc_sim.specs.internal.Counts.{HaveCompleted}
use Rattle.dmc_sim.specs.Simulation.{Sim, client_turn, each_in_turn}
use Rattle.dmc_sim.specs.internal.Simulations.{AreMarked, ClientsAt}
use Rattle.dmc_sim.proofs.Endings.{Reaches}
use Rattle.dmc_sim.proofs.round.send_all.Given as goal

abbrev pub invariant-loop-place : goal.invariant-loop-place
invariant-loop-place g l = record {
  marks : length l.marks ≡ length l.clients;
  scenes : map (λ c. c.scene) l.clients ≡ map (λ c. c.scene) l.fn.clients;
  completed : (n : ℕ) → HaveCompleted n l.fn.clients → HaveCompleted n l.clients;
  marked : AreMarked l.marks l.clients;
  turns : (scene : SceneValue) (sim : Sim g.row.T.Denot) → ClientsAt state_of scene l.fn.core l.fn.clients sim
      → Reaches (each_in_turn (client_turn g.T.Tag.ops scene l.at) (map (λ c. c.scene) l.fn.clients) sim) (each_in_turn (client_turn g.T.Tag.ops scene l.at) (drop l.place (map (λ c. c.scene) l.fn.clients))) (ClientsAt state_of scene l.core l.clients);
}
