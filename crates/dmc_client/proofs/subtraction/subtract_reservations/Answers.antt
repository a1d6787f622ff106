use Rattle.std.proofs.Common.{◌<◌, length, arith}
use Rattle.std.proofs.lemmas.List.Edits.{map_over_more}
use Rattle.dmc_tag.specs.Rules.{less_reservation}
use Rattle.dmc_client.proofs.subtraction.subtract_reservations.Goals as goal

pub loop-i-preserved : goal.loop-i-preserved
loop-i-preserved g c = record {
  items =
      let within : c.loop-i.i < length c.args.queue.now.items = omega arith in
      rw c.less_reservation.ensures (map_over_more (less_reservation g.T.Tag.ops c.args.amount) c.args.queue.now.items c.loop-i.queue.items c.loop-i.i c.index.result.now within c.loop-i.invariant.items c.index.ensures);
  len = c.loop-i.invariant.len;
}
