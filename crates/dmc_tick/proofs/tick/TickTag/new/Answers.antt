-- Answered here, so that a wrong body fails here.
use Rattle.std.proofs.Common.{rules}
use Rattle.dmc_tick.proofs.tick.TickTag.new.Goals as goal

pub of-requires : goal.of-requires
of-requires c = search rules
