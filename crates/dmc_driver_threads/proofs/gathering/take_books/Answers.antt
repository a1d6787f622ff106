use Rattle.std.proofs.Common.{arith}
use Rattle.dmc_driver_threads.proofs.Kept.{all_pushed, one_pushed}
use Rattle.dmc_driver_threads.specs.Opened.{IsWitnessed}
use Rattle.dmc_driver_threads.proofs.gathering.take_books.Goals as goal

pub loop-lock-preserved-in-Some : goal.loop-lock-preserved-in-Some
loop-lock-preserved-in-Some g c =
    let inv = c.loop-lock.invariant in
    let ok = c.push.ensures.succeeds (omega (arith, inv.count, inv.fits, c.in-Some.ensures.steps.1)) in
    record {
      books = all_pushed (IsWitnessed g.W.Witness.holds) c.loop-lock.books.items c.into_parts-book.result.0 c.push.result inv.books
          (c.into_parts-book.result.1, c.into_parts-book.ensures) c.push.ensures.items;
      count = omega (arith, inv.count, c.in-Some.ensures.steps.1, one_pushed c.loop-lock.books.items c.into_parts-book.result.0 c.push.result ok c.push.ensures.items);
      fits = omega (arith, inv.fits, c.push.ensures.capacity);
    }

pub loop-lock-preserved : goal.loop-lock-preserved
loop-lock-preserved g c =
    let inv = c.loop-lock.invariant in
    let ok = c.push.ensures.succeeds (omega (arith, inv.count, inv.fits, c.in-Some.ensures.steps.1)) in
    record {
      books = all_pushed (IsWitnessed g.W.Witness.holds) c.loop-lock.books.items c.into_parts-book.result.0 c.push.result inv.books
          (c.into_parts-book.result.1, c.into_parts-book.ensures) c.push.ensures.items;
      count = omega (arith, inv.count, c.in-Some.ensures.steps.1, one_pushed c.loop-lock.books.items c.into_parts-book.result.0 c.push.result ok c.push.ensures.items);
      fits = omega (arith, inv.fits, c.push.ensures.capacity);
    }
