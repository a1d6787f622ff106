use Rattle.std.proofs.Common.{◌≡◌, drop}
use Rattle.std.specs.List.{list_all}
use Rattle.dmc_tag.specs.Rules.{has_less}
use Rattle.dmc_client.proofs.subtraction.shares_have_less.Given as goal

-- those before have it
abbrev pub invariant-loop-i : goal.invariant-loop-i
invariant-loop-i g l = list_all (λ r. has_less g.T.Tag.ops l.amount r.tags.p) (drop l.i l.queue.items) ≡ list_all (λ r. has_less g.T.Tag.ops l.amount r.tags.p) l.queue.items
