use Rattle.std.proofs.Common.{◌≡◌, length, refl, arith}
use Rattle.std.proofs.Math.Seq.{take-length}
use Rattle.dmc_core.proofs.Opened.{next_holds, next_not_refused}
use Rattle.dmc_core.proofs.opening.register_all.Goals as goal

pub loop-client-init : goal.loop-client-init
loop-client-init g c = record {
  holds = c.requires.opens;
  registered = record { config = refl; ids = refl };
}

pub unreachable-requires : goal.unreachable-requires
unreachable-requires g c =
    let items = c.clients-client-items.ensures in
    next_not_refused g.T.Tag.ops c.args.scene.now c.clients-client-items.result.now items.value items.apart c.requires.spaced items.limit
    c.loop-client.client-index c.client-item.result c.loop-client-test.true c.client-item.is c.loop-client.invariant.registered
    (g.Q.Scheduler.state c.loop-client.queue) (g.Q.Scheduler.state c.register.new.self) c.loop-client.invariant.holds
    c.id.result c.info.result c.zero.result c.id.ensures c.info.ensures c.zero.ensures
    c.in-Err-Refused.field-0-0 (rw c.in-Err-Refused.field-0-is at c.in-Err-Refused.ensures)

pub loop-client-preserved : goal.loop-client-preserved
loop-client-preserved g c =
    let items = c.clients-client-items.ensures in
    let next = next_holds g.T.Tag.ops c.args.scene.now c.clients-client-items.result.now items.value items.apart c.requires.spaced items.limit
    c.loop-client.client-index c.client-item.result c.loop-client-test.true c.client-item.is c.loop-client.invariant.registered
    (g.Q.Scheduler.state c.loop-client.queue) (g.Q.Scheduler.state c.register.new.self) c.loop-client.invariant.holds
    c.id.result c.info.result c.zero.result c.id.ensures c.info.ensures c.zero.ensures
    c.in-Ok.ensures in
    record { holds = next.0; registered = next.1 }

pub returns : goal.returns
returns g c =
    let value = c.clients-client-items.ensures.value in
    let end : c.loop-client.client-index ≡ length c.args.scene.now.clients = rw (← value) (omega arith) in
    rw (end, take-length) at c.loop-client.invariant.holds
