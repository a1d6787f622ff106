-- One event more is written, and is read again.
use Rattle.std.proofs.Common.{◌≡◌, arith, subst, sym, Some, None, take, ◌+◌}
use Rattle.std.specs.Prelude.{slice_get}
use Rattle.std.specs.Io.KnownBytes.{Appends}
use Rattle.dmc_text.specs.Replies.{tag_text}
use Rattle.dmc_check.specs.SegmentTexts.{events_text}
use Rattle.dmc_check.proofs.SegmentLemmas.{one_more_written, one_more_again}
use Rattle.dmc_check.proofs.VerdictLemmas.{none_within}
use Rattle.dmc_check.proofs.write.write_events.Goals.{in-Some+in_ok-write_event, in_default}
use Rattle.dmc_check.proofs.write.write_events.Goals as goal

pub loop-index-preserved : goal.loop-index-preserved
loop-index-preserved g c =
    let made = g.T.TagText.made in
    let text = tag_text g.T.TagText.numerator g.T.TagText.denominator in
    let all = g.L.EventList.events c.args.events.now in
    let i = c.loop-index.index in
    let w = g.W.Write.contents in
    elim c.match-event_at.branch [
      | in-Some+in_ok-write_event b ↦
          let at : slice_get all i ≡ Some b.in-Some.event = sym b.in-Some.ensures in
          record {
            written = subst (λ o. Appends (w c.args.out.now) (w o) (events_text text (take (i + 1) all))) (sym b.out-is)
                (one_more_written made text (w c.args.out.now) (w c.loop-index.out) (w b.write_event.new.out) all i b.in-Some.event at c.loop-index.invariant.written b.in_ok-write_event.ensures.text);
            again = one_more_again made text all i b.in-Some.event at c.loop-index.invariant.again b.in_ok-write_event.ensures.again;
          }
      | in_default b ↦
          let at : None ≡ slice_get all i = b.in_default.ensures in
          absurd (none_within all i (omega arith) (sym at))
    ]
