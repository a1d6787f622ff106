use Rattle.dmc_head_index.proofs.Clients.{tag_order}
use Rattle.dmc_head_index.proofs.Least.{found_more}
use Rattle.dmc_head_index.proofs.share.find_least.Goals as goal

pub loop-key-preserved : goal.loop-key-preserved
loop-key-preserved g c =
    let order = tag_order g.T.Ord.cmp g.T.Tag.ops.compare g.met.T.Ord.total g.met.T.Tag.compares in
    rw (c.least_of_two-least.ensures, c.tag_of.ensures) (found_more g.T.Tag.ops order (g.X.OrderIndex.slots c.args.ready.now) c.loop-key.key c.loop-key.least c.loop-key.invariant)
