use Rattle.std.proofs.Common.{◌∙◌, sym, arith}
use Rattle.dmc_tag.specs.Rules.{has_less}
use Rattle.dmc_client.proofs.Places.{fails_at, passes_at}
use Rattle.dmc_client.proofs.subtraction.shares_have_less.Goals as goal

pub returns-then-not-has_less : goal.returns-then-not-has_less
returns-then-not-has_less g c =
    fails_at (λ r. has_less g.T.Tag.ops c.args.amount r.tags.p) c.args.queue.now.items c.loop-i.i _ _ (omega arith) c.index.ensures c.loop-i.invariant (sym c.has_less.ensures ∙ c.if-not-has_less.true)

pub loop-i-preserved : goal.loop-i-preserved
loop-i-preserved g c =
    passes_at (λ r. has_less g.T.Tag.ops c.args.amount r.tags.p) c.args.queue.now.items c.loop-i.i _ _ (omega arith) c.index.ensures c.loop-i.invariant (sym c.has_less.ensures ∙ c.if-not-has_less.false)
