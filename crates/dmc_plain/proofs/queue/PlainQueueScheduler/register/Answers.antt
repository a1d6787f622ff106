use Rattle.std.proofs.Common.{◌≡◌, ◌++◌, ◌∷◌, [], None, ap, subst, sym, ◌<◌, length, ◌∙◌}
use Rattle.std.specs.Prelude.{if◌then◌else◌}
use Rattle.dmc_types.specs.Limits.{max_clients, max_requests}
use Rattle.dmc_tag.specs.State.{PlainClient, State, client_named}
use Rattle.dmc_plain.proofs.Kept.{kept_pushed}
use Rattle.dmc_plain.proofs.queue.PlainQueueScheduler.register.Goals as goal

pub invariant_of-self-2 : goal.invariant_of-self-2
invariant_of-self-2 g c =
    let before = c.self.inside.clients.items in
    let new = c.newcomer-newcomer.result in
    let pushed = c.push.ensures.items ∙ ap (λ b. if b then before ++ new ∷ [] else before) c.if-is_err.ensures.negation in
    let none = subst (λ (s : State g.row.T.Denot). client_named c.args.client s.clients ≡ None) (sym c.self.view_is) c.in_ok-can_register.ensures.new in
    let room = subst (λ (s : State g.row.T.Denot). length s.clients < max_clients) (sym c.self.view_is) c.in_ok-can_register.ensures.room in
    let id = ap (λ (d : PlainClient g.row.T.Denot). d.id) c.newcomer-newcomer.ensures in
    rw pushed (kept_pushed max_clients max_requests before c.self.invariant new (ap (λ (d : PlainClient g.row.T.Denot). d.requests) c.newcomer-newcomer.ensures)
    (subst (λ id. client_named id before ≡ None) (sym id) none) room)
