-- Answered here, so that a wrong body fails here.
use Rattle.std.proofs.Common.{rules}
use Rattle.dmc_tag.proofs.rank.LimitRankRank.is_below.Goals as goal

pub returns-then-self-other : goal.returns-then-self-other
returns-then-self-other g c = search rules
