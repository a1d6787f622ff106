use Rattle.std.proofs.Common.{refl, ◌≡◌, ap, arith}
use Rattle.dmc_pull.specs.Queue.{state_of}
use Rattle.dmc_sim.proofs.Traces.{one_if}
use Rattle.dmc_sim.proofs.Sending.{sent_to}
use Rattle.dmc_sim.proofs.round.send_to.Goals as goal

pub returns-then-is_tagged-clause-turn : goal.returns-then-is_tagged-clause-turn
returns-then-is_tagged-clause-turn g c = λ scene.
    let counted = c.count_sent.ensures in
    let one : one_if c.is_tagged.result ≡ 1 = ap one_if c.if-is_tagged.true in
    let tagged = ap one_if c.is_tagged.ensures in
    sent_to g.T.Tag.ops state_of scene c.args.at c.args.server c.args.core.now c.ask.new.core c.ask-2.new.core c.args.client.now c.count_sent.new.self c.in_ok-_stamped._stamped c.in_ok-returned.returned
    (rw (c.id-id.ensures, c.cost.ensures.value) at c.in_ok-_stamped.ensures) (rw c.id-id.ensures at c.in_ok-returned.ensures) (record {
      scene = counted.scene;
      plan = counted.plan;
      sent = omega (arith, one, tagged, counted.sent);
      completed = counted.completed;
      reservation = counted.reservation;
    })

pub returns-else-is_tagged-clause-turn : goal.returns-else-is_tagged-clause-turn
returns-else-is_tagged-clause-turn g c = λ scene.
    let none : one_if c.is_tagged.result ≡ 0 = ap one_if c.if-is_tagged.false in
    let tagged = ap one_if c.is_tagged.ensures in
    sent_to g.T.Tag.ops state_of scene c.args.at c.args.server c.args.core.now c.ask.new.core c.ask-2.new.core c.args.client.now c.args.client.now c.in_ok-_stamped._stamped c.in_ok-returned.returned
    (rw (c.id-id.ensures, c.cost.ensures.value) at c.in_ok-_stamped.ensures) (rw c.id-id.ensures at c.in_ok-returned.ensures) (record {
      scene = refl;
      plan = refl;
      sent = omega (arith, none, tagged);
      completed = refl;
      reservation = refl;
    })
