-- The servers up to now have granted at most one more request, and at most this many more requests are completed. They have had
-- their turns, and the rest of them end as all do.
use Rattle.std.proofs.Common.{◌≡◌, ◌≤◌, ℕ, ◌+◌, drop, get_or, length, map}
use Rattle.dmc_pull.specs.Queue.{state_of}
use Rattle.dmc_scene.specs.SceneValue.{SceneValue}
use Rattle.dmc_sim.specs.internal.Counts.{HaveCompleted, HaveGranted}
use Rattle.dmc_sim.specs.Simulation.{Sim, server_turn, each_in_turn}
use Rattle.dmc_sim.specs.internal.Simulations.{AllAt, AreMarked}
use Rattle.dmc_sim.specs.declared.report.ServerReport.{ServerReport}
use Rattle.dmc_sim.proofs.Endings.{Reaches}
use Rattle.dmc_sim.proofs.round.serve_all.Given as goal

abbrev pub invariant-loop-row : goal.invariant-loop-row
invariant-loop-row g l = record {
  marks : length l.marks ≡ length l.clients;
  numbers : map (λ r. r.server) l.servers ≡ map (λ r. r.server) l.fn.servers;
  untouched : (k : ℕ) (d : ServerReport) → l.row-index ≤ k → get_or l.servers k d ≡ get_or l.fn.servers k d;
  grants : (n : ℕ) → HaveGranted n l.fn.servers → HaveGranted (n + 1) l.servers;
  scenes : map (λ c. c.scene) l.clients ≡ map (λ c. c.scene) l.fn.clients;
  completed : (n : ℕ) → HaveCompleted n l.fn.clients → HaveCompleted (n + l.row-index) l.clients;
  marked : AreMarked l.marks l.clients;
  turns : (scene : SceneValue) (sim : Sim g.row.T.Denot) → AllAt state_of scene l.fn.core l.fn.clients l.fn.servers sim
      → Reaches (each_in_turn (server_turn g.T.Tag.ops l.at) (map (λ r. r.server) l.fn.servers) sim) (each_in_turn (server_turn g.T.Tag.ops l.at) (drop l.row-index (map (λ r. r.server) l.fn.servers))) (AllAt state_of scene l.core l.clients l.servers);
}
