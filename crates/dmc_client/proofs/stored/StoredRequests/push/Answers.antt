-- That a request comes last is searched for, so that a wrong body fails here.
use Rattle.dmc_client.proofs.Behind.{some_first, still_first, pushed_first, pushed_behind, not_pushed}
use Rattle.dmc_client.proofs.stored.StoredRequests.push.Goals as goal

pub invariant_of-self : goal.invariant_of-self
invariant_of-self g c = some_first _ _

pub returns-then-is_none-clause-ok : goal.returns-then-is_none-clause-ok
returns-then-is_none-clause-ok g c = pushed_first c.self.inside.first c.is_none.result _ _ _ c.self.invariant c.self.view_is c.is_none.ensures c.if-is_none.true

pub invariant_of-self-then-is_err : goal.invariant_of-self-then-is_err
invariant_of-self-then-is_err g c = still_first _ c.is_none.result _ c.is_none.ensures c.if-is_none.false

pub returns-then-is_err-clause-err : goal.returns-then-is_err-clause-err
returns-then-is_err-clause-err g c = search not_pushed

pub invariant_of-self-2 : goal.invariant_of-self-2
invariant_of-self-2 g c = still_first _ c.is_none.result _ c.is_none.ensures c.if-is_none.false

pub returns-clause-ok : goal.returns-clause-ok
returns-clause-ok g c = search pushed_behind
