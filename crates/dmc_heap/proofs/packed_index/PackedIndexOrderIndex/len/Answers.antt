use Rattle.dmc_heap.proofs.PackedLemmas.{ranks_apart}
use Rattle.dmc_heap.proofs.packed_index.PackedIndexOrderIndex.len.Goals as goal

pub returns-clause-distinct : goal.returns-clause-distinct
returns-clause-distinct g c =
    ranks_apart g.P.PackedRank.rank_of g.P.Rank.cmp g.R.Rank.cmp g.met.P.PackedRank.same_order c.args.self.now.packed c.len.ensures.distinct
