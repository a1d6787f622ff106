use Rattle.std.proofs.Common.{length, ap, arith}
use Rattle.dmc_plain.proofs.Queued.{queued_bound}
use Rattle.dmc_plain.proofs.clients.count_requests.Goals as goal

pub overflow_add-count : goal.overflow_add-count
overflow_add-count g c =
    let bound = queued_bound c.args.clients.now c.loop-client.client-index c.client-item.result c.loop-client-test.true c.client-item.is in
    let count = c.loop-client.invariant in
    let more = ap length c.requests.ensures in
    omega (arith, bound, count, more)
