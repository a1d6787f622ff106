use Rattle.dmc_heap.proofs.PackedLemmas.{map-removed}
use Rattle.dmc_heap.proofs.packed_index.PackedIndexOrderIndex.remove.Goals as goal

pub returns-clause-rest : goal.returns-clause-rest
returns-clause-rest g c = map-removed g.P.PackedRank.rank_of c.args.self.now.packed c.args.key c.remove.ensures.rest
