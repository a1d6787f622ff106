use Rattle.std.proofs.Common.{ap, ◌∙◌, arith}
use Rattle.dmc_driver.specs.internal.Walks.{with_event}
use Rattle.dmc_driver.proofs.WalkLemmas.{calls_more, few_calls}
use Rattle.dmc_driver.proofs.stops.count_calls.Goals as goal

pub add_event-calls-requires-clause-replies : goal.add_event-calls-requires-clause-replies
add_event-calls-requires-clause-replies g c =
    let few = few_calls c.args.worker c.args.history.now.events c.loop-i.i c.loop-i.calls (omega (arith, c.loop-i-test.true, c.len-i-end.ensures.value)) c.loop-i.invariant in
    omega (arith, few.0, c.loop-i-test.true, c.len-i-end.ensures.value)

pub add_event-calls-requires-clause-grants : goal.add_event-calls-requires-clause-grants
add_event-calls-requires-clause-grants g c =
    let few = few_calls c.args.worker c.args.history.now.events c.loop-i.i c.loop-i.calls (omega (arith, c.loop-i-test.true, c.len-i-end.ensures.value)) c.loop-i.invariant in
    omega (arith, few.1, c.loop-i-test.true, c.len-i-end.ensures.value)

pub add_event-calls-requires-clause-nothings : goal.add_event-calls-requires-clause-nothings
add_event-calls-requires-clause-nothings g c =
    let few = few_calls c.args.worker c.args.history.now.events c.loop-i.i c.loop-i.calls (omega (arith, c.loop-i-test.true, c.len-i-end.ensures.value)) c.loop-i.invariant in
    omega (arith, few.2, c.loop-i-test.true, c.len-i-end.ensures.value)

pub loop-i-preserved : goal.loop-i-preserved
loop-i-preserved g c =
    c.add_event-calls.ensures ∙ ap (with_event c.args.worker c.loop-i.calls) c.at.ensures
    ∙ calls_more c.args.worker c.args.history.now.events c.loop-i.i c.loop-i.calls c.loop-i.invariant
