use Rattle.std.proofs.Common.{◌≡◌, map, take}
use Rattle.dmc_settle.proofs.checks.are_desks_of.Given as goal

abbrev pub invariant-loop-i : goal.invariant-loop-i
invariant-loop-i g l = map (λ d. d.client.0) (take l.i l.desks) ≡ map (λ c. c.id.0) (take l.i l.clients)
