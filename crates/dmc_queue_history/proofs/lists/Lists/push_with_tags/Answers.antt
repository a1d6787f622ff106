use Rattle.dmc_queue_history.proofs.Pushes.{adds_queued}
use Rattle.dmc_queue_history.proofs.lists.Lists.push_with_tags.Goals as goal

pub returns : goal.returns
returns g c =
    adds_queued g.T.Tag.ops c.args.self.now c.len.result c.place_in-place.result c.push_reserved.new.self c.args.queued
    c.push_reserved.ensures.events c.push_reserved.ensures.most c.push_reserved.ensures.used c.len.ensures.value c.place_in-place.ensures
