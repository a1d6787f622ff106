use Rattle.std.proofs.Common.{◌≡◌, map, take}
use Rattle.dmc_settle.proofs.checks.are_client_rows.Given as goal

abbrev pub invariant-loop-i : goal.invariant-loop-i
invariant-loop-i l = map (λ r. r.client) (take l.i l.rows) ≡ map (λ c. c.id) (take l.i l.clients)
