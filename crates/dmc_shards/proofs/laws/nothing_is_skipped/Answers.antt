use Rattle.dmc_shards.proofs.ForCallers.{skipped-none}
use Rattle.dmc_shards.proofs.laws.nothing_is_skipped.Goals as goal

pub returns : goal.returns
returns c = λ s before calls none. skipped-none s before calls none
