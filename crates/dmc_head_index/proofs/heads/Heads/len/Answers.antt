use Rattle.std.proofs.Common.{◌∙◌, ap, count_by, is_some}
use Rattle.dmc_head_index.specs.Heads.{ready_rank, heads_from}
use Rattle.dmc_head_index.proofs.HeadsFrom.{count_ranks}
use Rattle.dmc_head_index.proofs.heads.Heads.len.Goals as goal

pub returns : goal.returns
returns g c =
    let x = c.self.inside in
    let ready = g.I.WeightIndex.OrderIndex.slots x.weight in
    let heads = heads_from (g.I.ReservationIndex.OrderIndex.slots x.reservation) (g.I.LimitIndex.OrderIndex.slots x.limit) ready in
    c.len.ensures.value ∙ count_ranks ready_rank heads ready c.self.invariant.weight_is ∙ ap (count_by is_some) c.self.view_is
