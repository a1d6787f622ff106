use Rattle.dmc_head_index.specs.internal.Least.{FindsLeast}
use Rattle.dmc_head_index.proofs.share.find_least.Given as goal

-- it is the least of the keys before this one
abbrev pub invariant-loop-key : goal.invariant-loop-key
invariant-loop-key g l = FindsLeast g.T.Tag.ops (g.X.OrderIndex.slots l.ready) l.key l.least
