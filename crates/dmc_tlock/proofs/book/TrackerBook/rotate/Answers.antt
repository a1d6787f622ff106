use Rattle.std.proofs.Common.{sym, ap, subst}
use Rattle.dmc_types.specs.declared.config.Counting.{Counting}
use Rattle.dmc_tracker.specs.declared.event.TrackerEvent.{TrackerEvent}
use Rattle.dmc_tracker.specs.TrackerList.{IsTracked}
use Rattle.dmc_shared.specs.Segmented.{Ending}
use Rattle.dmc_tlock.proofs.book.TrackerBook.rotate.Goals as goal

pub new-requires : goal.new-requires
new-requires g c =
    let whole = ap (λ (e : Ending TrackerEvent). e.history) c.in_ok-part.ensures.segment in
    subst (λ (k : Counting). IsTracked k c.in_ok-part.part.history) (sym c.counting.ensures)
    (subst (IsTracked c.self.inside.tracker.counting) (sym whole) c.self.invariant.0.tracked)
