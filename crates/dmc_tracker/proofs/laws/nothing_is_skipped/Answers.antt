use Rattle.dmc_tracker.proofs.ForCallers.{skipped-none}
use Rattle.dmc_tracker.proofs.laws.nothing_is_skipped.Goals as goal

pub returns : goal.returns
returns c = skipped-none
