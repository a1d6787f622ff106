use Rattle.dmc_tracker.proofs.ForCallers.{sent-between}
use Rattle.dmc_tracker.proofs.laws.sent_between_stamps.Goals as goal

pub returns : goal.returns
returns c = sent-between
