use Rattle.std.proofs.Common.{rules, ◌<◌, ◌≡◌, length, Ok, slice_index_or}
use Rattle.dmc_tool.specs.internal.Verdicts.{IsVerdictAt}
use Rattle.dmc_tool.proofs.VerdictRows.{verdicts_more}
use Rattle.dmc_tool.proofs.verdicts.check_all.Goals as goal

pub loop-i-preserved : goal.loop-i-preserved
loop-i-preserved g c =
    let i = c.loop-i.i in
    let v = c.in_ok-index.field-0 in
    let within : i < length c.args.servers.now = search rules in
    let reported : slice_index_or c.in_ok-checked.checked.items i (Ok v) ≡ Ok v = search rules in
    let each = c.in_ok-checked.ensures.each i (Ok v) within in
    let call = each.1.met in
    let is : IsVerdictAt g.T.Tag.ops c.args.config c.args.servers.now i v = search rules in
    rw c.in_ok-push.ensures.items (verdicts_more g.T.Tag.ops c.args.config c.args.servers.now _ i v within is c.loop-i.invariant)
