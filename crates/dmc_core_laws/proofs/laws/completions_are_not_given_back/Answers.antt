use Rattle.dmc_pull.specs.Queue.{state_of}
use Rattle.dmc_core_laws.proofs.InForm.{nothing_given_back}
use Rattle.dmc_core_laws.proofs.Steps.{nothing_given_back_in_cores}
use Rattle.dmc_core_laws.proofs.laws.completions_are_not_given_back.Goals as goal

pub returns-clause-runs : goal.returns-clause-runs
returns-clause-runs g c = nothing_given_back g.T.Tag.ops

pub returns-clause-cores : goal.returns-clause-cores
returns-clause-cores g c = nothing_given_back_in_cores g.T.Tag.ops (λ q. state_of q)
