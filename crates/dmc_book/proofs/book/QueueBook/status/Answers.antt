use Rattle.std.proofs.Common.{rules, ◌∙◌, ap, length, refl}
use Rattle.dmc_tag.specs.State.{State, queued_requests}
use Rattle.dmc_book.proofs.book.QueueBook.status.Goals as goal

pub returns-clause-status : goal.returns-clause-status
returns-clause-status g c =
    let clients = ap (λ (s : State g.row.T.Denot). length s.clients) c.self.invariant.state in
    let requests = ap (λ (s : State g.row.T.Denot). length (queued_requests s.clients)) c.self.invariant.state in
    rw (← c.self.view_is) (record {
      counts = search rules;
      clients = c.client_count.ensures ∙ clients;
      requests = c.request_count.ensures ∙ requests;
      events = search rules;
      closed = refl;
    })
