use Rattle.dmc_scene.proofs.CostLemmas.{Progress}
use Rattle.dmc_scene.proofs.costs.CostList.of.Given as goal

abbrev pub invariant-loop-index : goal.invariant-loop-index
invariant-loop-index l = Progress l.values l.index l.units
