use Rattle.dmc_heap.proofs.PackedLemmas.{no_rank, least_rank}
use Rattle.dmc_heap.proofs.packed_index.PackedIndexOrderIndex.least.Goals as goal

pub returns-in_err-key : goal.returns-in_err-key
returns-in_err-key g c = rw c.from_residual.ensures (no_rank g.P.PackedRank.rank_of c.args.self.now.packed c.in_err-key.ensures)

pub returns : goal.returns
returns g c =
    rw c.rank.ensures (least_rank g.P.PackedRank.rank_of g.P.Rank.cmp g.R.Rank.cmp g.met.P.PackedRank.same_order c.args.self.now.packed c.in_ok-key.key c.in_ok-key.packed c.in_ok-key.ensures)
