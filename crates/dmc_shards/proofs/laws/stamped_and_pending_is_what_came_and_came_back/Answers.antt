use Rattle.dmc_shards.proofs.ForCallers.{stamped_and_pending}
use Rattle.dmc_shards.proofs.laws.stamped_and_pending_is_what_came_and_came_back.Goals as goal

pub returns : goal.returns
returns c = λ calls s. stamped_and_pending s calls
