use Rattle.std.proofs.Common.{◌≡◌, None, sym, ap, ◌∙◌, subst}
use Rattle.std.specs.Prelude.{is_some, true, slice_get, IfSome}
use Rattle.std.specs.Option.{option_and_then}
use Rattle.dmc_tag.specs.Rules.{progress_granted}
use Rattle.dmc_types.specs.declared.config.PhaseType.TheVariants as phases
use Rattle.dmc_tag.proofs.ForCallers.{due_from_ceil}
use Rattle.dmc_tag.specs.declared.plain.QueuedRequest.{QueuedRequest}
use Rattle.dmc_pull.specs.Queue.{Queue, AreValues}
use Rattle.dmc_pull.specs.internal.Choice.{first_at}
use Rattle.dmc_pull.proofs.Common.Replaced.{waits, request_is, first_named, first_value}
use Rattle.dmc_pull.proofs.Common.Progress.{granted_values}
use Rattle.dmc_pull.proofs.Pull.Picks.{first_chosen}
use Rattle.dmc_pull.proofs.Pull.Pulls.{same_some}
use Rattle.dmc_pull.proofs.queue.PullQueue.count_first_in_virtual_time.Goals as goal

pub invariant_of-self : goal.invariant_of-self
invariant_of-self g c =
    let ops = g.T.Tag.ops in
    let q = c.self.inside in
    let is = c.self.invariant.0 in
    let first = first_named q.roster.entries c.args.key (subst (λ v. is_some (first_at c.args.key v.roster.entries) ≡ true) (sym c.self.view_is) c.requires) in
    let waiting = waits q.roster.entries c.args.key first.0 first.1 in
    let due_from = due_from_ceil ops g.T.Tag.fraction g.T.Tag.is_value g.met.T.Tag.exact in
    let read = ap (option_and_then (λ rec. slice_get rec.requests 0)) c.at.ensures.value in
    let request = same_some (sym c.head.ensures.value ∙ c.unwrap-request.ensures) (sym read ∙ request_is waiting) in
    let share = subst (λ r. g.T.Tag.is_value (g.T.Tag.fraction r.tags.p)) (sym request) (first_value ops g.T.Tag.fraction g.T.Tag.is_value due_from _ q.queued c.args.key first.0 None q.last_moment is.distinct is waiting) in
    let values = subst (AreValues g.T.Tag.fraction g.T.Tag.is_value) (sym c.count_grant.ensures) (granted_values ops g.T.Tag.fraction g.T.Tag.is_value phases.Priority _ _ _ is.progress share) in (
      record { kept = is.kept; distinct = is.distinct; heads = is.heads; in_room = is.in_room; counted = is.counted; bound = is.bound; progress = values },
      c.self.invariant.1,
    )

pub returns-clause-progress : goal.returns-clause-progress
returns-clause-progress g c =
    let q = c.self.inside in
    let queue : Queue g.row.T.Denot = record { config = q.config; roster = q.roster; heads = q.heads.0; last_moment = q.last_moment; progress = q.progress } in
    let key = c.args.key in
    let first = first_named q.roster.entries key (subst (λ v. is_some (first_at key v.roster.entries) ≡ true) (sym c.self.view_is) c.requires) in
    let waiting = waits q.roster.entries key first.0 first.1 in
    let read = ap (option_and_then (λ rec. slice_get rec.requests 0)) c.at.ensures.value in
    let request = same_some (sym c.head.ensures.value ∙ c.unwrap-request.ensures) (sym read ∙ request_is waiting) in
    let counted = λ (v : Queue g.row.T.Denot) (request : QueuedRequest g.row.T.Denot). c.count_grant.new.progress ≡ progress_granted g.T.Tag.ops phases.Priority v.config.shares request.tags.p v.progress in
    let here = c.count_grant.ensures ∙ ap (λ shares. progress_granted g.T.Tag.ops phases.Priority shares c.unwrap-request.result.tags.p q.progress) c.shares.ensures in
    subst (λ v. IfSome (first_at key v.roster.entries) (λ found. counted v found.request)) c.self.view_is
    (subst (λ o. IfSome o (λ found. counted queue found.request)) (sym (first_chosen q.roster.entries key waiting.entry waiting.request waiting.rest waiting.found waiting.requests))
    (subst (counted queue) request here))
