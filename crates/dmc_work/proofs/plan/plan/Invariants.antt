use Rattle.std.proofs.Common.{vec_capacity}
use Rattle.dmc_work.specs.Plan.{generator}
use Rattle.dmc_work.proofs.PlanLemmas.{Progress}
use Rattle.dmc_work.proofs.plan.plan.Given as goal

abbrev pub invariant-loop-request : goal.invariant-loop-request
invariant-loop-request l =
    Progress (generator l.seed l.fn.client.0) l.servers l._request l.n l.words l.plan.items (vec_capacity l.plan)
