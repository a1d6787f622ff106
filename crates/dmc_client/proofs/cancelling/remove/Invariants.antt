use Rattle.std.proofs.Common.{not}
use Rattle.std.proofs.lemmas.List.Filters.{FiltersInPlace}
use Rattle.dmc_tag.specs.Cancel.{has_token}
use Rattle.dmc_client.proofs.cancelling.remove.Given as goal

-- those of the first i requests that stay are in front, and the rest are as they were
abbrev pub invariant-loop-i : goal.invariant-loop-i
invariant-loop-i g l = FiltersInPlace (λ r. not (has_token l.token r)) l.initial.queue.items l.queue.items l.kept l.i
