-- The events so far are written, and each is read again.
use Rattle.std.proofs.Common.{take}
use Rattle.std.specs.Io.KnownBytes.{Appends}
use Rattle.std.specs.List.{AllByRecursion}
use Rattle.dmc_text.specs.Replies.{tag_text}
use Rattle.dmc_check.specs.SegmentTexts.{IsEventAgain, events_text}
use Rattle.dmc_check.proofs.write.write_events.Given as goal

abbrev pub invariant-loop-index : goal.invariant-loop-index
invariant-loop-index g l = record {
  written : Appends (g.W.Write.contents l.fn.out) (g.W.Write.contents l.out) (events_text (tag_text g.T.TagText.numerator g.T.TagText.denominator) (take l.index (g.L.EventList.events l.events)));
  again : AllByRecursion (IsEventAgain g.T.TagText.made (tag_text g.T.TagText.numerator g.T.TagText.denominator)) (take l.index (g.L.EventList.events l.events));
}
