use Rattle.dmc_queue_history.proofs.Pushes.{adds_granted}
use Rattle.dmc_queue_history.proofs.lists.Lists.push_granted.Goals as goal

pub returns : goal.returns
returns g c =
    adds_granted g.T.Tag.ops c.args.self.now c.len.result c.place_in-place.result c.push_reserved.new.self c.args.granted
    c.push_reserved.ensures.events c.push_reserved.ensures.most c.push_reserved.ensures.used c.len.ensures.value c.place_in-place.ensures
