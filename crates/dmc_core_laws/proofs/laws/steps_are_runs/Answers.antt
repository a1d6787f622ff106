use Rattle.dmc_pull.specs.Queue.{state_of}
use Rattle.dmc_core_laws.proofs.Steps.{steps_are_runs}
use Rattle.dmc_core_laws.proofs.laws.steps_are_runs.Goals as goal

pub returns : goal.returns
returns g c = steps_are_runs g.T.Tag.ops (λ q. state_of q)
