use Rattle.std.proofs.Common.{◌≡◌, map, subst}
use Rattle.std.specs.Option.{option_map}
use Rattle.dmc_tag.specs.Rank.{limit_rank_cmp}
use Rattle.dmc_head_index.specs.Heads.{limit_rank, heads_from, IsFirst, with_ready_mark}
use Rattle.dmc_head_index.proofs.Clients.{same_compare, tag_order, is_empty, is_first}
use Rattle.dmc_head_index.proofs.MarkLemmas.{none_marked, all_ready, none_due}
use Rattle.dmc_head_index.proofs.heads.Heads.next_to_mark.Goals as goal
use Rattle.dmc_head_index.proofs.heads.Heads.next_to_mark.Goals.{then-rank-via-then-rank, then-rank-via-else-rank+then-not-is_due}

pub returns-then-rank : goal.returns-then-rank
returns-then-rank g c =
    let x = c.self.inside in
    let reservation = g.I.ReservationIndex.OrderIndex.slots x.reservation in
    let limits = g.I.LimitIndex.OrderIndex.slots x.limit in
    let ready = g.I.WeightIndex.OrderIndex.slots x.weight in
    let heads = heads_from reservation limits ready in
    let order = tag_order g.T.Ord.cmp g.T.Tag.ops.compare g.met.T.Ord.total g.met.T.Tag.compares in
    let same = same_compare g.T.Ord.cmp g.T.Tag.ops.compare g.met.T.Tag.compares in
    let least = c.in-Some.rank in
    let first = subst (λ compare. IsFirst limit_rank (limit_rank_cmp compare) heads c.in-Some.key least) same (is_first limit_rank heads limits c.self.invariant.limit_is (limit_rank_cmp g.T.Ord.cmp) c.in-Some.key least c.in-Some.ensures) in
    subst (λ hs. map (option_map (with_ready_mark g.T.Tag.ops c.args.t)) hs ≡ hs) c.self.view_is (elim c.then-rank.branch [
      | then-rank-via-then-rank w ↦ all_ready g.T.Tag.ops c.args.t order heads c.in-Some.key least first w.if-rank.true
      | then-rank-via-else-rank+then-not-is_due w ↦ none_due g.T.Tag.ops c.args.t order heads c.in-Some.key least first w.if-rank.false (cc (w.is_due.ensures, w.if-not-is_due.true))
    ])

pub returns-in-None : goal.returns-in-None
returns-in-None g c =
    let x = c.self.inside in
    let reservation = g.I.ReservationIndex.OrderIndex.slots x.reservation in
    let limits = g.I.LimitIndex.OrderIndex.slots x.limit in
    let ready = g.I.WeightIndex.OrderIndex.slots x.weight in
    let heads = heads_from reservation limits ready in
    subst (λ hs. map (option_map (with_ready_mark g.T.Tag.ops c.args.t)) hs ≡ hs) c.self.view_is (none_marked g.T.Tag.ops c.args.t heads (is_empty limit_rank heads limits c.self.invariant.limit_is c.in-None.ensures))
