use Rattle.std.proofs.Common.{◌≡◌, Some}
use Rattle.std.specs.Prelude.{is_some}
use Rattle.dmc_tag.specs.Cancel.{charges_of}
use Rattle.dmc_client.proofs.TakenBack.{PassesOver}
use Rattle.dmc_client.proofs.Order.{tag_order}
use Rattle.dmc_client.proofs.cancelling.pass_all.Given as goal

-- the first i requests have passed, or were passed over, and the rest are as they were
abbrev pub invariant-loop-i : goal.invariant-loop-i
invariant-loop-i g l = record {
  passes : PassesOver g.T.Tag.ops l.token (charges_of g.T.Tag.ops l.counting (Some l.spacings)) g.T.Tag.fraction g.T.Tag.is_value g.met.T.Tag.exact (tag_order g.T.Ord.cmp g.T.Tag.ops.compare g.met.T.Ord.total g.met.T.Tag.compares) (is_some l.spacings.r) l.initial.queue.items l.initial.befores l.i l.queue.items l.leaves l.befores;
  len : l.queue.len ≡ l.initial.queue.len;
}
