use Rattle.dmc_bench.specs.Keys.{HoldsFirst}
use Rattle.dmc_bench.proofs.indexes.change_all.Given as goal

-- the same keys are held
abbrev pub invariant-loop-key : goal.invariant-loop-key
invariant-loop-key g l = HoldsFirst l.keys l.keys (g.I.OrderIndex.slots l.index)
