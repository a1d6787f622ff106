use Rattle.dmc_bench.specs.Keys.{HoldsFirst}
use Rattle.dmc_bench.proofs.indexes.use_index.Given as goal

-- no key is held
abbrev pub invariant-loop-round : goal.invariant-loop-round
invariant-loop-round g l = HoldsFirst 0 l.load.clients (g.I.OrderIndex.slots l.index)
