-- Only `grind` proves these. Named, so that no other search fails first.
use Rattle.std.proofs.Common.{arith}
use Rattle.std.proofs.lemmas.Grind.{common_steps}
use Rattle.dmc_heap.proofs.indexed_heap.map_entries.Goals as goal

pub f-entry-requires : goal.f-entry-requires
f-entry-requires g c = grind (arith, common_steps)

pub loop-entry-preserved : goal.loop-entry-preserved
loop-entry-preserved g c = grind (arith, common_steps)
