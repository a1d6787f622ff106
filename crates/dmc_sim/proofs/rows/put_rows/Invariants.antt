use Rattle.std.proofs.Common.{◌≡◌, ◌≤◌, length, map, take}
use Rattle.std.specs.Prelude.{vec_capacity}
use Rattle.dmc_sim.specs.internal.Rows.{row_of}
use Rattle.dmc_sim.proofs.rows.put_rows.Given as goal

abbrev pub invariant-loop-client : goal.invariant-loop-client
invariant-loop-client l = record {
  room : length l.clients ≤ vec_capacity l.rows;
  rows : l.rows.items ≡ map row_of (take l.client-index l.clients);
}
