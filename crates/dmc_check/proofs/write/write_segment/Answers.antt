-- The text is that of the header and of the events, and what a queue recorded is read again.
use Rattle.std.proofs.Common.{subst}
use Rattle.std.specs.Prelude.{OnOk}
use Rattle.std.specs.List.{AllByRecursion}
use Rattle.dmc_text.specs.Replies.{tag_text}
use Rattle.dmc_text.specs.RoundTrip.{IsHeaderAgain}
use Rattle.dmc_check.specs.SegmentTexts.{IsEventAgain}
use Rattle.dmc_check.proofs.SegmentLemmas.{segment_by, segment_written}
use Rattle.dmc_check.proofs.write.write_segment.Goals as goal

pub returns-clause-text : goal.returns-clause-text
returns-clause-text g c =
    let w = g.W.Write.contents in
    segment_written g.T.TagText.made (tag_text g.T.TagText.numerator g.T.TagText.denominator) c.write_events.result (w c.args.out.now) (w c.write_header.new.out) (w c.write_events.new.out)
    c.args.segment.now c.server.result c.first.result c.events.result.now.events c.server.ensures c.first.ensures.value c.events.ensures c.in_ok-write_header.ensures.text c.write_events.ensures.text

pub returns-clause-again : goal.returns-clause-again
returns-clause-again g c =
    let made = g.T.TagText.made in
    let text = tag_text g.T.TagText.numerator g.T.TagText.denominator in
    segment_by made text c.write_events.result g.T.Tag.ops c.args.segment.now c.server.result c.segment_replays.ensures c.server.ensures
    (subst (IsHeaderAgain c.server.result) c.first.ensures.value c.in_ok-write_header.ensures.again)
    (subst (λ es. OnOk c.write_events.result (AllByRecursion (IsEventAgain made text) es)) c.events.ensures c.write_events.ensures.again)
