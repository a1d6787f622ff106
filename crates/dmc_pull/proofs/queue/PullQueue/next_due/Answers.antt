use Rattle.std.proofs.Common.{◌≡◌, ℕ, List, ◌∷◌, min, None, sym, subst, ap, ◌∙◌}
use Rattle.std.specs.Option.{option_map}
use Rattle.dmc_tag.specs.Best.{best_of_all, by_weight, is_free}
use Rattle.dmc_tag.specs.Rules.{moment_of, earlier, least_due}
use Rattle.dmc_tag.specs.State.{queued_requests}
use Rattle.dmc_tag.specs.declared.plain.QueuedRequest.{QueuedRequest}
use Rattle.dmc_pull.specs.Represented.{clients_in}
use Rattle.dmc_tag.proofs.ForCallers.{due_from_ceil, not_found_has_none}
use Rattle.dmc_pull.proofs.Pull.Picks.{tag_order, records_of}
use Rattle.dmc_pull.proofs.Pull.Choices.{none_queued}
use Rattle.dmc_pull.proofs.Pull.Due.{next_due, all_unmarked, not_nothing}
use Rattle.dmc_pull.proofs.queue.PullQueue.next_due.Given.{Over}
use Rattle.dmc_pull.proofs.queue.PullQueue.next_due.Goals as goal
use Rattle.dmc_pull.proofs.queue.PullQueue.next_due.Goals.{In-Some-least_by_reservation}

-- what both answers of a queue with a request are: the earlier of the two least moments
least : (g : Over) (c : In-Some-least_by_reservation g) (m : ℕ) → m ≡ earlier c.due_moment-free.result (option_map (λ t. moment_of (g.T.Tag.ops.ceil t)) c.in-Some-least_by_reservation.reservation.tag)
    → (first : QueuedRequest g.row.T.Denot) (rest : List (QueuedRequest g.row.T.Denot)) → queued_requests (clients_in c.self.inside.roster.entries) ≡ first ∷ rest → m ≡ least_due g.T.Tag.ops first rest
least g c m is first rest whole =
    let ops = g.T.Tag.ops in
    let order = tag_order g.T.Ord.cmp ops.compare g.met.T.Ord.total g.met.T.Tag.compares in
    let q = c.self.inside in
    let es = q.roster.entries in
    let are = c.self.invariant.0.heads in
    let records = records_of ops g.T.Tag.fraction g.T.Tag.is_value q.config.hz es c.self.invariant.0.kept in
    let none_free : best_of_all ops by_weight (is_free ops q.last_moment) (clients_in es) ≡ None = subst (λ v. best_of_all ops by_weight (is_free ops v.last_moment) (clients_in v.roster.entries) ≡ None) (sym c.self.view_is) c.requires in
    let unmarked = all_unmarked ops q.last_moment es q.heads.0 are (not_found_has_none ops by_weight (is_free ops q.last_moment) (clients_in es) none_free) in
    is
    ∙ ap (λ free. earlier free (option_map (λ t. moment_of (ops.ceil t)) c.in-Some-least_by_reservation.reservation.tag)) c.due_moment-free.ensures
    ∙ next_due ops order (due_from_ceil ops g.T.Tag.fraction g.T.Tag.is_value g.met.T.Tag.exact) q.last_moment es q.heads.0 are c.self.invariant.0.distinct records unmarked
    c.in-Some-least_by_reservation.field-0-0 c.in-Some-least_by_reservation.reservation c.in-Some-least_by_reservation.ensures c.in-Some.field-0-0 c.in-Some.limit c.in-Some.ensures first rest whole

pub returns-in_default : goal.returns-in_default
returns-in_default g c = λ first rest whole.
    let q = c.self.inside in
    let d = c.self.invariant.0.distinct in
    not_nothing (queued_requests (clients_in q.roster.entries)) first rest (none_queued g.T.Tag.ops q.last_moment q.roster.entries q.heads.0 c.self.invariant.0.heads d c.in_default.ensures) (ap (λ v. queued_requests (clients_in v.roster.entries)) c.self.view_is ∙ whole)

pub returns-in-None : goal.returns-in-None
returns-in-None g c = λ first rest whole.
    least g (goal.at.returns-in-None g c).In-Some-least_by_reservation c.due_moment-free.result
    (ap (λ o. earlier c.due_moment-free.result (option_map (λ t. moment_of (g.T.Tag.ops.ceil t)) o)) (sym c.in-None.is)) first rest (ap (λ v. queued_requests (clients_in v.roster.entries)) c.self.view_is ∙ whole)

pub returns-in-Some-tag : goal.returns-in-Some-tag
returns-in-Some-tag g c = λ first rest whole.
    let free = c.due_moment-free.result in
    least g (goal.at.returns-in-Some-tag g c).In-Some-least_by_reservation c.min.result
    (c.min.ensures ∙ ap (λ b. min free b) c.due_moment.ensures ∙ ap (λ o. earlier free (option_map (λ t. moment_of (g.T.Tag.ops.ceil t)) o)) (sym c.in-Some-tag.is)) first rest (ap (λ v. queued_requests (clients_in v.roster.entries)) c.self.view_is ∙ whole)

pub returns-in_default-least_by_reservation : goal.returns-in_default-least_by_reservation
returns-in_default-least_by_reservation g c = λ first rest whole.
    let q = c.self.inside in
    let d = c.self.invariant.0.distinct in
    let none = none_queued g.T.Tag.ops q.last_moment q.roster.entries q.heads.0 c.self.invariant.0.heads d c.in_default-least_by_reservation.ensures in
    not_nothing (queued_requests (clients_in q.roster.entries)) first rest none (ap (λ v. queued_requests (clients_in v.roster.entries)) c.self.view_is ∙ whole)
