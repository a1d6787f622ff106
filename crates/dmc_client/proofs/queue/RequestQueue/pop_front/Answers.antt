use Rattle.std.proofs.Common.{Some, ap, ◌∙◌}
use Rattle.dmc_client.proofs.Deferred.{popped_is_deferred, unpopped_is_deferred, none_is_deferred, read_less, popped_less, empty_less}
use Rattle.dmc_client.proofs.queue.RequestQueue.pop_front.Goals as goal
use Rattle.dmc_client.proofs.queue.RequestQueue.pop_front.Goals.{then-is_empty, else-is_empty}

pub invariant_of-self : goal.invariant_of-self
invariant_of-self g c = unpopped_is_deferred g.T.Tag.ops _ _ _ c.self.invariant c.in_err-first.ensures.value c.pop.ensures.rest

pub returns-in_err-first-clause-value : goal.returns-in_err-first-clause-value
returns-in_err-first-clause-value g c =
    c.from_residual.ensures ∙ read_less g.T.Tag.ops c.self.inside.deferred c.self.inside.stored _ 0 _ c.self.view_is c.in_err-first.ensures.value

pub returns-in_err-first-clause-rest : goal.returns-in_err-first-clause-rest
returns-in_err-first-clause-rest g c = popped_less g.T.Tag.ops c.self.inside.deferred c.self.inside.stored _ _ c.self.view_is c.pop.ensures.rest

pub invariant_of-self-then-is_empty : goal.invariant_of-self-then-is_empty
invariant_of-self-then-is_empty g c = none_is_deferred g.T.Tag.ops _

pub invariant_of-self-else-is_empty : goal.invariant_of-self-else-is_empty
invariant_of-self-else-is_empty g c = popped_is_deferred g.T.Tag.ops _ _ _ c.self.invariant c.pop.ensures.rest c.if-is_empty.ensures

pub returns-clause-value : goal.returns-clause-value
returns-clause-value g c =
    ap Some c.less_deferred.ensures ∙ read_less g.T.Tag.ops c.self.inside.deferred c.self.inside.stored _ 0 _ c.self.view_is c.in_ok-first.ensures.value

pub returns-clause-rest : goal.returns-clause-rest
returns-clause-rest g c =
    let rest = popped_less g.T.Tag.ops c.self.inside.deferred c.self.inside.stored _ _ c.self.view_is c.pop.ensures.rest in
    elim c.if-is_empty.branch [
      | then-is_empty w ↦ w.self-is ∙ empty_less g.T.Tag.ops c.self.inside.deferred c.pop.new.self w.if-is_empty.ensures ∙ rest
      | else-is_empty w ↦ w.self-is ∙ rest
    ]
