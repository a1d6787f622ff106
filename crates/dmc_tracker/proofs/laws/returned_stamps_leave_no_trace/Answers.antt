use Rattle.dmc_tracker.proofs.ForCallers.{IsTracked-returned}
use Rattle.dmc_tracker.proofs.laws.returned_stamps_leave_no_trace.Goals as goal

pub returns : goal.returns
returns c = IsTracked-returned
