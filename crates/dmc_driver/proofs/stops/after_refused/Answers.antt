use Rattle.std.proofs.Common.{◌+◌, ◌++◌, sym, ap, ◌∙◌, arith}
use Rattle.dmc_driver.specs.Stops.{first_refused, listed}
use Rattle.dmc_driver.proofs.WalkLemmas.{refused_after, refused_more, rest_more, rest_other}
use Rattle.dmc_driver.proofs.stops.after_refused.Goals as goal

pub loop-i-preserved : goal.loop-i-preserved
loop-i-preserved g c =
    let i = c.loop-i.i in
    let events = c.args.history.now.events in
    let before = first_refused i events in
    let more = ap (λ o. before ++ listed o) c.refused_at.ensures ∙ sym (refused_more events i) in
    rest_more c.args.stops.now before (listed c.refused_at.result) c.loop-i.rest.now c.in_ok-rest.rest.now c.loop-i.invariant c.in_ok-rest.ensures
    ∙ ap (λ xs. xs ++ c.in_ok-rest.rest.now) more

pub returns-in_err-rest : goal.returns-in_err-rest
returns-in_err-rest g c = rw c.from_residual.ensures (λ after is.
    let i = c.loop-i.i in
    let events = c.args.history.now.events in
    let before = first_refused i events in
    let more = ap (λ o. before ++ listed o) c.refused_at.ensures ∙ sym (refused_more events i) in
    let all = refused_after events (i + 1) c.args.commands (omega (arith, c.loop-i-test.true)) in
    rest_other c.args.stops.now before (listed c.refused_at.result) all.0 c.loop-i.rest.now c.loop-i.invariant c.in_err-rest.ensures after
    (is ∙ ap (λ xs. xs ++ after) (all.1 ∙ ap (λ xs. xs ++ all.0) (sym more))))
