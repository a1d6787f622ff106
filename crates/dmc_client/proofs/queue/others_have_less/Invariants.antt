use Rattle.std.proofs.Common.{◌≡◌, drop}
use Rattle.std.specs.List.{list_all}
use Rattle.dmc_client.specs.internal.Deferred.{less_deferred, reservation_has_less}
use Rattle.dmc_client.proofs.queue.others_have_less.Given as goal

-- those before have it
abbrev pub invariant-loop-i : goal.invariant-loop-i
invariant-loop-i g l = list_all (λ r. reservation_has_less g.T.Tag.ops l.amount (less_deferred g.T.Tag.ops l.deferred r)) (drop l.i l.others.items) ≡ list_all (λ r. reservation_has_less g.T.Tag.ops l.amount (less_deferred g.T.Tag.ops l.deferred r)) l.others.items
