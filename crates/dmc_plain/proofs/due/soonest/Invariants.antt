use Rattle.std.proofs.Common.{◌≡◌, take}
use Rattle.std.specs.Prelude.{fold}
use Rattle.dmc_plain.specs.internal.Due.{sooner}
use Rattle.dmc_plain.proofs.due.soonest.Given as goal

-- the earliest of the moment and those so far
abbrev pub invariant-loop-request : goal.invariant-loop-request
invariant-loop-request g l = l.least ≡ fold (sooner g.T.Tag.ops) l.initial.least (take l.request-index l.requests)
