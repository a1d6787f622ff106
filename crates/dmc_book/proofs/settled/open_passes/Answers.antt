use Rattle.std.proofs.Common.{◌≡◌, arith, rules}
use Rattle.std.specs.Prelude.{nat_lt}
use Rattle.dmc_book.specs.BookState.{worker_side}
use Rattle.dmc_book.specs.Counts.{one_if}
use Rattle.dmc_book.proofs.Counting.{one_at_most}
use Rattle.dmc_book.proofs.SettlingLemmas.{open_more}
use Rattle.dmc_book.proofs.settled.open_passes.Goals as goal

pub loop-seat-preserved : goal.loop-seat-preserved
loop-seat-preserved g c =
    let x = c.seat-item.result in
    let one : c.from-count.result ≡ one_if (nat_lt 0 (worker_side x).books.calls.open_tills) = search rules in
    let most = one_at_most (nat_lt 0 (worker_side x).books.calls.open_tills) in
    let more = open_more worker_side c.args.workers.now c.loop-seat.seat-index x c.loop-seat-test.true c.seat-item.is in
    record {
      few = omega (arith, one, most, c.loop-seat.invariant.few);
      counted = omega (arith, one, more, c.loop-seat.invariant.counted);
    }
