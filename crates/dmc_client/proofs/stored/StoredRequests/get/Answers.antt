use Rattle.std.proofs.Common.{◌-◌, slice_get, ap, ◌∙◌}
use Rattle.dmc_client.proofs.Places.{read_first, read_behind, read_copied}
use Rattle.dmc_client.proofs.stored.StoredRequests.get.Goals as goal

pub returns-then-i-eq0 : goal.returns-then-i-eq0
returns-then-i-eq0 g c =
    rw c.if-i-eq0.true (read_first c.self.inside.first c.self.inside.later.items c.self.invariant ∙ ap (λ xs. slice_get xs 0) c.self.view_is)

pub returns : goal.returns
returns g c =
    c.copied.ensures
    ∙ read_copied c.self.inside.later.items (c.args.i - 1) _ c.get.ensures.item
    ∙ read_behind c.self.inside.first c.self.inside.later.items c.args.i c.self.invariant c.if-i-eq0.false
    ∙ ap (λ xs. slice_get xs c.args.i) c.self.view_is
