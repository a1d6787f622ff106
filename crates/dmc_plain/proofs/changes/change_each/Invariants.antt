use Rattle.std.proofs.Common.{◌≡◌, ◌++◌, map, take, drop}
use Rattle.dmc_plain.proofs.changes.change_each.Given as goal

-- those before are changed, and the rest is as it was
abbrev pub invariant-loop-item : goal.invariant-loop-item
invariant-loop-item g l =
    let changed = g.C.Change.changed l.change in
    l.items ≡ map changed (take l.item-index l.initial.items) ++ drop l.item-index l.initial.items
