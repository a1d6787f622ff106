use Rattle.dmc_tracker.proofs.ForCallers.{next-all}
use Rattle.dmc_tracker.proofs.laws.next_stamp_in_all.Goals as goal

pub returns : goal.returns
returns c = next-all
