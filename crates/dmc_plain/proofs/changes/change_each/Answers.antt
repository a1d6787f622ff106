use Rattle.std.proofs.Common.{◌<◌, length, arith}
use Rattle.std.proofs.lemmas.List.Edits.{map_over_more}
use Rattle.dmc_plain.proofs.changes.change_each.Goals as goal

pub loop-item-preserved : goal.loop-item-preserved
loop-item-preserved g c =
    let within : c.loop-item.item-index < length c.args.items.now = omega arith in
    rw (c.apply.ensures, ← c.item-item.is) (map_over_more (g.C.Change.changed c.args.change.now) c.args.items.now c.loop-item.items c.loop-item.item-index c.item-item.result within c.loop-item.invariant c.item-item.is)
