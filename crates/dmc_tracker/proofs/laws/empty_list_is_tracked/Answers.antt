use Rattle.dmc_tracker.proofs.ForCallers.{IsTracked-nil}
use Rattle.dmc_tracker.proofs.laws.empty_list_is_tracked.Goals as goal

pub returns : goal.returns
returns c = IsTracked-nil
