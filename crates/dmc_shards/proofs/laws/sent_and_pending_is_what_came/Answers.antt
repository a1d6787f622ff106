use Rattle.dmc_shards.proofs.ForCallers.{sent_and_pending}
use Rattle.dmc_shards.proofs.laws.sent_and_pending_is_what_came.Goals as goal

pub returns : goal.returns
returns c = λ calls s accepted. sent_and_pending s calls accepted
