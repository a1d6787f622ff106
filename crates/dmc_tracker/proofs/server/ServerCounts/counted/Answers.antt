-- Answered here, so that a wrong body fails here.
use Rattle.std.proofs.Common.{rules}
use Rattle.dmc_tracker.proofs.server.ServerCounts.counted.Goals as goal

pub returns-in-Others : goal.returns-in-Others
returns-in-Others g = search rules

pub returns-in-All : goal.returns-in-All
returns-in-All g = search rules
