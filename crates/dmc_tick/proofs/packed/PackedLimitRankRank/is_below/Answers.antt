use Rattle.std.specs.Ordering.{is_lt, int_cmp}
use Rattle.std.proofs.Common.{ap, ◌∙◌}
use Rattle.dmc_tag.specs.Rank.{limit_rank_cmp}
use Rattle.dmc_tick.specs.Packed.{limit_rank_in}
use Rattle.dmc_tick.proofs.PackedOrder.{number_lt}
use Rattle.dmc_tick.proofs.packed.PackedLimitRankRank.is_below.Goals as goal

pub returns : goal.returns
returns c =
    number_lt c.number.result c.number-2.result c.number.ensures.bound.bound c.number-2.ensures.bound.bound
    ∙ ap (λ a. is_lt (limit_rank_cmp int_cmp a (limit_rank_in c.number-2.result))) c.number.ensures.rank
    ∙ ap (λ b. is_lt (limit_rank_cmp int_cmp c.args.self.now b)) c.number-2.ensures.rank
