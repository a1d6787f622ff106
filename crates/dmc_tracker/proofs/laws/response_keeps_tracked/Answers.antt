use Rattle.dmc_tracker.proofs.ForCallers.{IsTracked-response}
use Rattle.dmc_tracker.proofs.laws.response_keeps_tracked.Goals as goal

pub returns : goal.returns
returns c = IsTracked-response
