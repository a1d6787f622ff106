use Rattle.dmc_heap.proofs.PackedLemmas.{map-more}
use Rattle.dmc_heap.proofs.packed_index.PackedIndexOrderIndex.reserve_keys.Goals as goal

pub returns-clause-ok : goal.returns-clause-ok
returns-clause-ok g c = map-more g.P.PackedRank.rank_of c.args.self.now.packed c.reserve_keys.new.self c.args.n c.reserve_keys.result c.reserve_keys.ensures.ok
