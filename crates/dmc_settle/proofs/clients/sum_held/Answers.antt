use Rattle.std.proofs.Common.{◌+◌, get_or, sym, ap, ◌∙◌, subst, arith}
use Rattle.dmc_settle.specs.declared.report.StampsLeft.{StampsLeft}
use Rattle.dmc_settle.specs.internal.Filled.{with_held}
use Rattle.dmc_settle.specs.internal.Places.{no_held}
use Rattle.dmc_settle.proofs.Holding.{AreSumsOf, held_next, held_far, held_within}
use Rattle.dmc_settle.proofs.clients.sum_held.Goals as goal

pub add_held-sum-requires-clause-fits : goal.add_held-sum-requires-clause-fits
add_held-sum-requires-clause-fits c = held_far c.loop-left.left-index c.loop-left.sum (omega (arith, c.loop-left-test.true, c.requires.few)) c.loop-left.invariant.fits

pub loop-left-preserved : goal.loop-left-preserved
loop-left-preserved c =
    let i = c.loop-left.left-index in
    let inv = c.loop-left.invariant in
    let few = c.requires.each i c.loop-left-test.true in
    record {
      sums = c.add_held-sum.ensures ∙ ap (λ (x : StampsLeft). with_held x (get_or c.args.held.now i no_held)) inv.sums ∙ sym (held_next c.args.held.now i no_held c.loop-left-test.true);
      fits = subst (λ (x : StampsLeft). AreSumsOf (i + 1) x) (sym c.add_held-sum.ensures) (held_within i c.loop-left.sum (get_or c.args.held.now i no_held) few inv.fits);
    }
