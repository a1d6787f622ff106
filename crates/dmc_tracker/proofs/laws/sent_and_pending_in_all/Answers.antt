use Rattle.dmc_tracker.proofs.ForCallers.{sums-all}
use Rattle.dmc_tracker.proofs.laws.sent_and_pending_in_all.Goals as goal

pub returns : goal.returns
returns c = λ events s. sums-all s events
