-- Answered here, so that a wrong body fails here.
use Rattle.std.proofs.Common.{rules}
use Rattle.dmc_tag.proofs.assignment.next_tags.Goals as goal

pub returns-in_err-next_tag-in-Some : goal.returns-in_err-next_tag-in-Some
returns-in_err-next_tag-in-Some g c = search rules

pub returns : goal.returns
returns g c = search rules
