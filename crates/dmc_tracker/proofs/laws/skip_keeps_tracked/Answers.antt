use Rattle.dmc_tracker.proofs.ForCallers.{IsTracked-skip}
use Rattle.dmc_tracker.proofs.laws.skip_keeps_tracked.Goals as goal

pub returns : goal.returns
returns c = IsTracked-skip
