use Rattle.std.proofs.Common.{subst}
use Rattle.std.specs.Option.{MatchOption}
use Rattle.dmc_tag.specs.Rank.{ready_rank_cmp}
use Rattle.dmc_index.specs.Index.{IsEmpty}
use Rattle.dmc_head_index.specs.Heads.{ready_rank, heads_from, IsFirst}
use Rattle.dmc_head_index.proofs.Clients.{same_compare, found_first}
use Rattle.dmc_head_index.proofs.heads.Heads.least_by_weight.Goals as goal

pub returns : goal.returns
returns g c =
    let x = c.self.inside in
    let heads = heads_from (g.I.ReservationIndex.OrderIndex.slots x.reservation) (g.I.LimitIndex.OrderIndex.slots x.limit) (g.I.WeightIndex.OrderIndex.slots x.weight) in
    let found = found_first ready_rank heads (g.I.WeightIndex.OrderIndex.slots x.weight) c.self.invariant.weight_is (ready_rank_cmp g.T.Ord.cmp) (λ p. p.0) (λ p. p.1) c.least.result c.least.ensures in
    let same = same_compare g.T.Ord.cmp g.T.Tag.ops.compare g.met.T.Tag.compares in
    subst (λ hs. MatchOption c.least.result (IsEmpty hs) (λ p. IsFirst ready_rank (ready_rank_cmp g.T.Tag.ops.compare) hs p.0 p.1)) c.self.view_is (subst (λ compare. MatchOption c.least.result (IsEmpty heads) (λ p. IsFirst ready_rank (ready_rank_cmp compare) heads p.0 p.1)) same found)
