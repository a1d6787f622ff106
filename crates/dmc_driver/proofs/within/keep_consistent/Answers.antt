use Rattle.std.proofs.Common.{arith}
use Rattle.std.proofs.lemmas.List.Elements.{AllWithin-more, at_read}
use Rattle.dmc_tlock.specs.Consistent.{IsConsistent}
use Rattle.dmc_driver.proofs.within.keep_consistent.Goals as goal

pub loop-tracker-preserved : goal.loop-tracker-preserved
loop-tracker-preserved g c =
    let i = c.loop-tracker.tracker-index in
    AllWithin-more IsConsistent c.args.trackers.now 0 i c.loop-tracker.invariant
    (at_read c.args.trackers.now IsConsistent i c.tracker-item.result c.loop-tracker-test.true c.tracker-item.is c.book_is_consistent.ensures)
