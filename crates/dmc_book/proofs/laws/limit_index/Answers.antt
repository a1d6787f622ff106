use Rattle.std.proofs.Common.{subst}
use Rattle.dmc_tag.specs.State.{State}
use Rattle.dmc_pull.specs.FirstRequests.{AreFirstRequests}
use Rattle.dmc_book.proofs.laws.limit_index.Goals as goal

pub returns : goal.returns
returns g c =
    let here = c.book.inside in
    let heads = subst (λ (s : State g.row.T.Denot). AreFirstRequests g.T.Tag.ops s here.queue.0.heads) c.book.invariant.state c.limit_index.ensures.heads in
    rw (← c.book.view_is) (here.queue.0.heads, heads, c.limit_index.ensures.ranks)
