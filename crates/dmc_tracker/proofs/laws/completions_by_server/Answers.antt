use Rattle.dmc_tracker.proofs.ForCallers.{completions-by_server}
use Rattle.dmc_tracker.proofs.laws.completions_by_server.Goals as goal

pub returns : goal.returns
returns c = completions-by_server
