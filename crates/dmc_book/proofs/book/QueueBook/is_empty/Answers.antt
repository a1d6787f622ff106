use Rattle.std.proofs.Common.{◌∙◌, ap, length}
use Rattle.std.specs.Prelude.{◌==◌}
use Rattle.dmc_tag.specs.State.{State, queued_requests}
use Rattle.dmc_book.proofs.book.QueueBook.is_empty.Goals as goal

pub returns : goal.returns
returns g c =
    rw (← c.self.view_is) (c.empty.ensures ∙ ap (λ (s : State g.row.T.Denot). length (queued_requests s.clients) == 0) c.self.invariant.state)
