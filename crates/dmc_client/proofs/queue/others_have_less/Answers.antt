use Rattle.std.proofs.Common.{ap, ◌∙◌, sym, arith}
use Rattle.dmc_client.specs.internal.Deferred.{less_deferred, reservation_has_less}
use Rattle.dmc_client.proofs.Places.{fails_at, passes_at}
use Rattle.dmc_client.proofs.queue.others_have_less.Goals as goal

pub returns-then-not-reservation_has_less : goal.returns-then-not-reservation_has_less
returns-then-not-reservation_has_less g c =
    let read = ap (reservation_has_less g.T.Tag.ops c.args.amount) (sym c.less_deferred.ensures) ∙ sym c.reservation_has_less.ensures in
    fails_at (λ r. reservation_has_less g.T.Tag.ops c.args.amount (less_deferred g.T.Tag.ops c.args.deferred r)) c.args.others.now.items c.loop-i.i _ _ (omega arith) c.index.ensures c.loop-i.invariant (read ∙ c.if-not-reservation_has_less.true)

pub loop-i-preserved : goal.loop-i-preserved
loop-i-preserved g c =
    let read = ap (reservation_has_less g.T.Tag.ops c.args.amount) (sym c.less_deferred.ensures) ∙ sym c.reservation_has_less.ensures in
    passes_at (λ r. reservation_has_less g.T.Tag.ops c.args.amount (less_deferred g.T.Tag.ops c.args.deferred r)) c.args.others.now.items c.loop-i.i _ _ (omega arith) c.index.ensures c.loop-i.invariant (read ∙ c.if-not-reservation_has_less.false)
