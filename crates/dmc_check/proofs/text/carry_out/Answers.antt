-- A line's replay: nothing happens, one begins, or one more event is replayed.
use Rattle.dmc_check.proofs.TextEnds.{event_on, none_begun}
use Rattle.dmc_check.proofs.text.carry_out.Goals as goal

pub returns-in-Skip : goal.returns-in-Skip
returns-in-Skip g c = rw (c.in-Skip.is) (λ recorded h. h)

pub returns-in-Segment : goal.returns-in-Segment
returns-in-Segment g c = rw (c.in-Segment.is) (λ recorded h. h)

pub returns-in-Config : goal.returns-in-Config
returns-in-Config g c = rw (c.in-Config.is) (λ recorded h. c.begin.ensures)

pub returns-in-None : goal.returns-in-None
returns-in-None g c = rw (c.in-Event.is, c.in-None.is) (none_begun g.T.Tag.ops g.T.TagText.made c.in-Event.event)

pub returns-in-Some : goal.returns-in-Some
returns-in-Some g c =
    rw (c.in-Event.is, c.in-Some.is) (event_on g.T.Tag.ops g.T.TagText.made c.add.result c.in-Some.replay c.add.new.self c.in-Event.event c.add.ensures.added)
