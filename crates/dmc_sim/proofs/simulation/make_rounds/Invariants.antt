-- A server grants at most one request a round, so that a round completes at most 64. The rounds up to now are made, and the rest
-- of them end as all do.
use Rattle.std.proofs.Common.{◌≡◌, ◌*◌, ◌-◌, length, map}
use Rattle.dmc_pull.specs.Queue.{state_of}
use Rattle.dmc_sim.specs.internal.Counts.{HaveCompleted, HaveGranted}
use Rattle.dmc_sim.specs.Reports.{end_of}
use Rattle.dmc_sim.specs.Simulation.{Sim, rounds}
use Rattle.dmc_sim.specs.internal.Simulations.{AllAt, AreMarked}
use Rattle.dmc_sim.proofs.Endings.{Reaches}
use Rattle.dmc_sim.proofs.simulation.make_rounds.Given as goal

abbrev pub invariant-loop-round : goal.invariant-loop-round
invariant-loop-round g l = record {
  marks : length l.marks ≡ length l.clients;
  marked : AreMarked l.marks l.clients;
  numbers : map (λ r. r.server) l.servers ≡ map (λ r. r.server) l.fn.servers;
  scenes : map (λ c. c.scene) l.clients ≡ map (λ c. c.scene) l.fn.clients;
  completed : HaveCompleted (l.round * 64) l.clients;
  grants : HaveGranted l.round l.servers;
  end : l.end ≡ end_of l.scene l.round;
  rounds : (sim : Sim g.row.T.Denot) → AllAt state_of l.scene l.fn.core l.fn.clients l.fn.servers sim
      → Reaches (rounds g.T.Tag.ops l.scene l.scene.max_pulls 0 sim) (rounds g.T.Tag.ops l.scene (l.scene.max_pulls - l.round) l.round) (AllAt state_of l.scene l.core l.clients l.servers);
}
