use Rattle.std.proofs.Common.{sym, ◌∙◌}
use Rattle.dmc_heap.proofs.PackedLemmas.{rank_at, ranks_mapped}
use Rattle.dmc_heap.proofs.packed_index.PackedIndexOrderIndex.map_ranks.Goals as goal

pub map_ranks-requires-clause-callable : goal.map_ranks-requires-clause-callable
map_ranks-requires-clause-callable g c = λ key p e.
    let rank_of = g.P.PackedRank.rank_of in
    c.requires.callable key (rank_of p) (rank_at rank_of c.args.self.now.packed key p e)

pub map_ranks-requires-clause-ordered : goal.map_ranks-requires-clause-ordered
map_ranks-requires-clause-ordered g c = λ a b p q x y at_a at_b less gives_x gives_y.
    let rank_of = g.P.PackedRank.rank_of in
    let slots = c.args.self.now.packed in
    let same = g.met.P.PackedRank.same_order in
    same x y ∙ c.requires.ordered a b (rank_of p) (rank_of q) (rank_of x) (rank_of y) (rank_at rank_of slots a p at_a) (rank_at rank_of slots b q at_b) (sym (same p q) ∙ less) gives_x gives_y

pub returns : goal.returns
returns g c = ranks_mapped g.P.PackedRank.rank_of _ c.args.self.now.packed c.map_ranks.new.self c.map_ranks.ensures
