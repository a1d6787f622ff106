use Rattle.std.proofs.Common.{slice_get, ap, ◌∙◌}
use Rattle.dmc_client.proofs.Places.{read_first}
use Rattle.dmc_client.proofs.Behind.{popped_empty, popped_rest}
use Rattle.dmc_client.proofs.stored.StoredRequests.pop.Goals as goal

pub invariant_of-self : goal.invariant_of-self
invariant_of-self g c = popped_empty _ _ _ c.pop_front-self-inside.ensures.items c.pop_front-self-inside.ensures.rest

pub returns-clause-value : goal.returns-clause-value
returns-clause-value g c = read_first c.self.inside.first c.self.inside.later.items c.self.invariant ∙ ap (λ xs. slice_get xs 0) c.self.view_is

pub returns-clause-rest : goal.returns-clause-rest
returns-clause-rest g c = popped_rest c.self.inside.first c.pop_front-self-inside.result _ _ _ c.self.invariant c.self.view_is c.pop_front-self-inside.ensures.items
