use Rattle.std.proofs.Common.{ap, ◌∙◌}
use Rattle.dmc_heap.proofs.PackedLemmas.{packed_apart, map-written}
use Rattle.dmc_heap.proofs.packed_index.PackedIndexOrderIndex.insert.Goals as goal

pub insert-requires-clause-apart : goal.insert-requires-clause-apart
insert-requires-clause-apart g c =
    packed_apart g.P.PackedRank.rank_of g.P.Rank.cmp g.R.Rank.cmp g.met.P.PackedRank.same_order c.args.self.now.packed
    (ap g.P.PackedRank.rank_of c.pack.ensures ∙ g.met.P.PackedRank.stores c.args.rank) c.requires.apart

pub returns : goal.returns
returns g c =
    map-written g.P.PackedRank.rank_of c.args.self.now.packed c.args.key (ap g.P.PackedRank.rank_of c.pack.ensures ∙ g.met.P.PackedRank.stores c.args.rank) c.insert.ensures
