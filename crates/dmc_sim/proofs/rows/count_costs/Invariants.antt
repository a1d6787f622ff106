-- The clients so far have what their completions cost, and the others are as they were.
use Rattle.std.proofs.Common.{◌≡◌, ◌<◌, ◌≤◌, ℕ, get_or, length}
use Rattle.dmc_sim.specs.internal.Rows.{HasCost}
use Rattle.dmc_sim.specs.declared.client.SimClient.{SimClient}
use Rattle.dmc_sim.proofs.rows.count_costs.Given as goal

abbrev pub invariant-loop-client : goal.invariant-loop-client
invariant-loop-client g l = record {
  long : length l.clients ≡ length l.fn.clients;
  done : (k : ℕ) (d : SimClient) → k < l.client-index → HasCost l.core.clients (get_or l.fn.clients k d) (get_or l.clients k d);
  rest : (k : ℕ) (d : SimClient) → l.client-index ≤ k → get_or l.clients k d ≡ get_or l.fn.clients k d;
}
