use Rattle.std.proofs.Common.{◌≡◌, length, take}
use Rattle.dmc_tag.specs.State.{queued_requests}
use Rattle.dmc_plain.proofs.clients.count_requests.Given as goal

abbrev pub invariant-loop-client : goal.invariant-loop-client
invariant-loop-client g l = l.count ≡ length (queued_requests (take l.client-index l.clients))
