use Rattle.std.proofs.Common.{◌≡◌, length}
use Rattle.std.specs.List.{AllByRecursion}
use Rattle.dmc_pull.specs.Queue.{state_of}
use Rattle.dmc_core.specs.internal.Opening.{opening_state}
use Rattle.dmc_core.proofs.opening.open_servers.Given as goal

abbrev pub invariant-loop : goal.invariant-loop
invariant-loop g l = record {
  as_many : length l.servers.items ≡ l.counter;
  each : AllByRecursion (λ s. (state_of s.queue ≡ opening_state g.T.Tag.ops l.fn.scene) × (s.full ≡ 0)) l.servers.items;
}
