use Rattle.dmc_tracker.proofs.ForCallers.{sums-others}
use Rattle.dmc_tracker.proofs.laws.sent_and_pending_in_others.Goals as goal

pub returns : goal.returns
returns c = λ events s. sums-others s events
