use Rattle.dmc_bench.specs.Keys.{HoldsFirst}
use Rattle.dmc_bench.proofs.indexes.remove_all.Given as goal

-- the keys before this one are held
abbrev pub invariant-loop-key : goal.invariant-loop-key
invariant-loop-key g l = HoldsFirst l.key l.keys (g.I.OrderIndex.slots l.index)
