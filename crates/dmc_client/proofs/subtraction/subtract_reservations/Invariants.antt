use Rattle.std.proofs.Common.{◌≡◌, ◌++◌, map, take, drop}
use Rattle.dmc_tag.specs.Rules.{less_reservation}
use Rattle.dmc_client.proofs.subtraction.subtract_reservations.Given as goal

-- those before have it taken off, and the rest is as it was
abbrev pub invariant-loop-i : goal.invariant-loop-i
invariant-loop-i g l = record {
  items : l.queue.items ≡ map (less_reservation g.T.Tag.ops l.amount) (take l.i l.initial.queue.items) ++ drop l.i l.initial.queue.items;
  len : l.queue.len ≡ l.initial.queue.len;
}
