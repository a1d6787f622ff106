use Rattle.std.proofs.Common.{◌≡◌, take, None}
use Rattle.std.specs.Prelude.{fold}
use Rattle.dmc_tag.specs.State.{queued_requests}
use Rattle.dmc_plain.specs.internal.Due.{sooner}
use Rattle.dmc_plain.proofs.due.least_due.Given as goal

-- the earliest of the clients so far
abbrev pub invariant-loop-client : goal.invariant-loop-client
invariant-loop-client g l = l.least ≡ fold (sooner g.T.Tag.ops) None (queued_requests (take l.client-index l.clients))
