-- The pieces are those of the line, from which the event is read again.
use Rattle.dmc_text.specs.Replies.{tag_text}
use Rattle.dmc_text.proofs.WrittenLemmas.{event_again, event_written, whenever}
use Rattle.dmc_text.proofs.write_line.write_event.Goals as goal

pub returns-clause-text : goal.returns-clause-text
returns-clause-text g c =
    let w = g.W.Write.contents in
    event_written g.T.TagText.made (tag_text g.T.TagText.numerator g.T.TagText.denominator) c.write_all-2.result
    (w c.args.out.now) (w c.write_worker.new.out) (w c.write_command.new.out) (w c.write_all.new.self) (w c.write_reply.new.out) (w c.write_all-2.new.self) c.args.event.now
    c.in_ok-write_worker.ensures.text c.in_ok-write_command.ensures.text c.in_ok-write_all.ensures.bytes c.in_ok-write_reply.ensures.text c.write_all-2.ensures.bytes

pub returns-clause-again : goal.returns-clause-again
returns-clause-again g c =
    whenever c.write_all-2.result (λ reported. event_again g.T.TagText.made (tag_text g.T.TagText.numerator g.T.TagText.denominator) c.args.event.now
    c.write_worker.ensures.fits c.write_command.ensures.again (c.write_reply.ensures.again reported))
