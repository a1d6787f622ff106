use Rattle.std.proofs.Common.{ap, ◌∙◌}
use Rattle.dmc_heap.proofs.PackedLemmas.{packed_apart_from_others, map-written}
use Rattle.dmc_heap.proofs.packed_index.PackedIndexOrderIndex.change.Goals as goal

pub change-requires-clause-apart : goal.change-requires-clause-apart
change-requires-clause-apart g c =
    packed_apart_from_others g.P.PackedRank.rank_of g.P.Rank.cmp g.R.Rank.cmp g.met.P.PackedRank.same_order c.args.self.now.packed c.args.key
    (ap g.P.PackedRank.rank_of c.pack.ensures ∙ g.met.P.PackedRank.stores c.args.rank) c.requires.apart

pub returns : goal.returns
returns g c =
    map-written g.P.PackedRank.rank_of c.args.self.now.packed c.args.key (ap g.P.PackedRank.rank_of c.pack.ensures ∙ g.met.P.PackedRank.stores c.args.rank) c.change.ensures
