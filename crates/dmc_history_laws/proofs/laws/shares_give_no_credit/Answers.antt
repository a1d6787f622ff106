use Rattle.dmc_tag.proofs.ForCallers.{tag_order}
use Rattle.dmc_history_laws.proofs.ForCallers.{no_credit}
use Rattle.dmc_history_laws.proofs.laws.shares_give_no_credit.Goals as goal

pub returns : goal.returns
returns g c =
    let order = tag_order g.T.Ord.cmp g.T.Tag.ops.compare g.met.T.Ord.total g.met.T.Tag.compares in
    no_credit g.T.Tag.ops g.T.Tag.fraction g.T.Tag.is_value g.met.T.Tag.exact order
