use Rattle.std.proofs.Common.{◌≡◌, ◌≤◌, length, take}
use Rattle.std.specs.Prelude.{filter}
use Rattle.dmc_tag.specs.Cancel.{has_token}
use Rattle.dmc_plain.proofs.cancelling.count.Given as goal

abbrev pub invariant-loop-request : goal.invariant-loop-request
invariant-loop-request g l = (l.count ≡ length (filter (has_token l.token) (take l.request-index l.requests))) × (l.count ≤ l.request-index)
