use Rattle.std.proofs.Common.{◌∙◌, ap, length, subst, sym}
use Rattle.dmc_tag.specs.State.{State, queued_requests}
use Rattle.dmc_pull.specs.Queue.{state_of}
use Rattle.dmc_book.specs.Consistent.{IsReplayed}
use Rattle.dmc_book.proofs.OpeningLemmas.{replayed_new}
use Rattle.dmc_book.proofs.book.QueueBook.settle_own.Goals as goal

pub invariant_of-self : goal.invariant_of-self
invariant_of-self g c =
    subst (IsReplayed g.T.Tag.ops (state_of c.new.result) c.self.inside.config) (sym (ap (λ a. a.history) c.settle.ensures.emptied))
    (replayed_new g.T.Tag.ops (state_of c.new.result) c.self.inside.config c.new.ensures)

pub returns-clause-left : goal.returns-clause-left
returns-clause-left g c =
    let requests = ap (λ (s : State g.row.T.Denot). length (queued_requests s.clients)) c.self.invariant.state in
    rw (← c.self.view_is) (c.settle.ensures.left ∙ c.request_count-left.ensures ∙ requests)
