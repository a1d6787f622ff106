use Rattle.std.proofs.Common.{rules, ℕ, ◌≡◌, sym, ap, ◌∙◌, subst, List, Option, Some, None}
use Rattle.std.specs.Prelude.{◌==◌, is_some, true, IfSome, Result}
use Rattle.dmc_tag.specs.State.{PlainClient}
use Rattle.dmc_tag.specs.Outcome.{in_range}
use Rattle.dmc_tag.specs.Rules.{can_shift_by, floor_by, slack_of, next_tags}
use Rattle.dmc_tag.proofs.ForCallers.{minus_nothing, moments_are_values, weights_are_values}
use Rattle.dmc_pull.specs.Represented.{clients_in}
use Rattle.dmc_roster.specs.Entries.{Entry, entry_keyed, entry_named, record_at}
use Rattle.dmc_pull.specs.internal.Adding.{AddTags, needed_shift}
use Rattle.dmc_pull.specs.Queue.{IsQueue, state_of}
use Rattle.dmc_types.specs.declared.config.Shares.{Shares}
use Rattle.dmc_types.specs.declared.refusal.Refusal.{Refusal}
use Rattle.dmc_tag.specs.Tag.{Tagging}
use Rattle.dmc_client.specs.Record.{Rec, client_of}
use Rattle.dmc_pull.proofs.Common.Keyed.{record_is}
use Rattle.dmc_pull.proofs.Common.Progress.{floor_value}
use Rattle.dmc_pull.proofs.Add.Adds as adds
use Rattle.dmc_pull.proofs.Pull.Allowed as allowed
use Rattle.dmc_pull.proofs.queue.PullQueue.add_tags.Given.{Over}
use Rattle.dmc_pull.proofs.queue.PullQueue.add_tags.Goals as goal
use Rattle.dmc_pull.proofs.queue.PullQueue.add_tags.Goals.{After-slack_for-slack}
use Rattle.dmc_lemmas.proofs.Options.{err_is}

-- the amount that is taken off for a client that is idle as the record is
amount_is : {T : Type 0} (ops : Tagging T) (shares : Shares) (es : List (Entry T)) (key : ℕ) (rec : Rec T) → record_at key es ≡ Some rec → (t : T) (r : Result (Option T) Refusal)
    → ((arriving : PlainClient T) → arriving.idle ≡ rec.idle → r ≡ needed_shift ops shares (clients_in es) arriving t) → IfSome (entry_keyed key es) (λ e. r ≡ needed_shift ops shares (clients_in es) (client_of e.id e.rec) t)
amount_is ops shares es key rec found t r h = adds.if_all _ (entry_keyed key es) (λ e f. h (client_of e.id e.rec) (ap (λ x. x.idle) (record_is key es e rec f found)))

-- the record that is read again is the one before
record_at_again : (g : Over) (c : After-slack_for-slack g) → c.at.result.now ≡ c.at-rec.result.now
record_at_again g c =
    let first = subst (λ q. record_at c.in-Some.key q.roster.entries ≡ Some c.at-rec.result.now) c.self.view_is c.at-rec.ensures.value in
    let again = subst (λ q. record_at c.in-Some.key q.roster.entries ≡ Some c.at.result.now) (c.self-2.view_is ∙ c.needed_shift.ensures.same) c.at.ensures.value in
    cc (first, again)

pub returns-in_default-clause-outcome : goal.returns-in_default-clause-outcome
returns-in_default-clause-outcome g c =
    let none = subst (λ q. entry_named c.args.client q.roster.entries ≡ None) c.self.view_is (adds.no_entry c.args.client c.self.inside.roster.entries (sym c.find_with_hint.ensures.key ∙ c.in_default.is)) in
    adds.unknown g.T.Tag.ops (state_of c.args.self.now) c.args.client c.args.params (g.T.Tag.ops.of_moment c.args.at) (adds.unnamed c.args.client c.args.self.now.roster.entries none)

pub returns-then-self-clause-outcome : goal.returns-then-self-clause-outcome
returns-then-self-clause-outcome g c =
    let is = subst (λ q. IsQueue g.T.Tag.ops g.T.Tag.fraction g.T.Tag.is_value q c.self.inside.queued) c.self.view_is c.self.invariant.0 in
    let entry = subst (λ q. entry_keyed c.in-Some.key q.roster.entries ≡ entry_named c.args.client q.roster.entries) c.self.view_is c.in-Some.ensures.entry in
    let held = subst (λ q. is_some (entry_keyed c.in-Some.key q.roster.entries) ≡ true) c.self.view_is c.in-Some.ensures.held in
    allowed.queue_full g.T.Tag.ops g.T.Tag.fraction g.T.Tag.is_value c.args.self.now c.self.inside.queued is g.met.T.Tag.exact.same (minus_nothing g.T.Tag.ops g.T.Tag.fraction g.T.Tag.is_value g.met.T.Tag.exact) c.args.client c.args.params c.args.at c.in-Some.key entry held c.if-self.true

pub returns-in_err-shift-clause-outcome : goal.returns-in_err-shift-clause-outcome
returns-in_err-shift-clause-outcome g c =
    let is = subst (λ q. IsQueue g.T.Tag.ops g.T.Tag.fraction g.T.Tag.is_value q c.self.inside.queued) c.self.view_is c.self.invariant.0 in
    let entry = subst (λ q. entry_keyed c.in-Some.key q.roster.entries ≡ entry_named c.args.client q.roster.entries) c.self.view_is c.in-Some.ensures.entry in
    let held = subst (λ q. is_some (entry_keyed c.in-Some.key q.roster.entries) ≡ true) c.self.view_is c.in-Some.ensures.held in
    let at_key = subst (λ q. record_at c.in-Some.key q.roster.entries ≡ Some c.at-rec.result.now) c.self.view_is c.at-rec.ensures.value in
    let refused = allowed.shift_refused g.T.Tag.ops g.T.Tag.fraction g.T.Tag.is_value c.args.self.now c.self.inside.queued is g.met.T.Tag.exact.same (minus_nothing g.T.Tag.ops g.T.Tag.fraction g.T.Tag.is_value g.met.T.Tag.exact) c.args.client c.args.params c.args.at c.in-Some.key entry held c.if-self.false c.needed_shift.result c.of_moment-t.result c.of_moment-t.ensures (amount_is g.T.Tag.ops c.args.self.now.config.shares c.args.self.now.roster.entries c.in-Some.key c.at-rec.result.now at_key c.of_moment-t.result c.needed_shift.result (λ arriving same. c.needed_shift.ensures.value arriving (same ∙ sym c.is_idle-idle.ensures.value))) c.in_err-shift.field-0.0 c.in_err-shift.was in
    subst (λ r. AddTags g.T.Tag.ops g.T.Tag.fraction g.T.Tag.is_value c.args.self.now c.args.client c.args.params c.args.at r) (sym (err_is c.from_residual.result c.in_err-shift.field-0.0 c.from_residual.ensures.1)) refused

pub returns-then-not-can_shift_by-clause-outcome : goal.returns-then-not-can_shift_by-clause-outcome
returns-then-not-can_shift_by-clause-outcome g c =
    let is = subst (λ q. IsQueue g.T.Tag.ops g.T.Tag.fraction g.T.Tag.is_value q c.self.inside.queued) c.self.view_is c.self.invariant.0 in
    let entry = subst (λ q. entry_keyed c.in-Some.key q.roster.entries ≡ entry_named c.args.client q.roster.entries) c.self.view_is c.in-Some.ensures.entry in
    let held = subst (λ q. is_some (entry_keyed c.in-Some.key q.roster.entries) ≡ true) c.self.view_is c.in-Some.ensures.held in
    let can = subst (λ q. c.can_shift_by.result ≡ can_shift_by g.T.Tag.ops c.in_ok-shift.shift (clients_in q.roster.entries)) c.needed_shift.ensures.same c.can_shift_by.ensures in
    let at_key = subst (λ q. record_at c.in-Some.key q.roster.entries ≡ Some c.at-rec.result.now) c.self.view_is c.at-rec.ensures.value in
    allowed.shift_out_of_range g.T.Tag.ops g.T.Tag.fraction g.T.Tag.is_value c.args.self.now c.self.inside.queued is g.met.T.Tag.exact.same (minus_nothing g.T.Tag.ops g.T.Tag.fraction g.T.Tag.is_value g.met.T.Tag.exact) c.args.client c.args.params c.args.at c.in-Some.key entry held c.if-self.false c.needed_shift.result c.of_moment-t.result c.of_moment-t.ensures (amount_is g.T.Tag.ops c.args.self.now.config.shares c.args.self.now.roster.entries c.in-Some.key c.at-rec.result.now at_key c.of_moment-t.result c.needed_shift.result (λ arriving same. c.needed_shift.ensures.value arriving (same ∙ sym c.is_idle-idle.ensures.value))) c.in_ok-shift.shift c.in_ok-shift.was (sym can ∙ c.if-not-can_shift_by.true)

pub returns-in_default-assigned-clause-outcome : goal.returns-in_default-assigned-clause-outcome
returns-in_default-assigned-clause-outcome g c =
    let is = subst (λ q. IsQueue g.T.Tag.ops g.T.Tag.fraction g.T.Tag.is_value q c.self.inside.queued) c.self.view_is c.self.invariant.0 in
    let entry = subst (λ q. entry_keyed c.in-Some.key q.roster.entries ≡ entry_named c.args.client q.roster.entries) c.self.view_is c.in-Some.ensures.entry in
    let held = subst (λ q. is_some (entry_keyed c.in-Some.key q.roster.entries) ≡ true) c.self.view_is c.in-Some.ensures.held in
    let can = subst (λ q. c.can_shift_by.result ≡ can_shift_by g.T.Tag.ops c.in_ok-shift.shift (clients_in q.roster.entries)) c.needed_shift.ensures.same c.can_shift_by.ensures in
    let at_key = subst (λ q. record_at c.in-Some.key q.roster.entries ≡ Some c.at-rec.result.now) c.self.view_is c.at-rec.ensures.value in
    let compared = c.share_floor-floor.ensures ∙ ap (λ shares. floor_by g.T.Tag.ops shares (c.self.inside.queued == 0) c.self.inside.progress c.of_moment-t.result) c.shares.ensures in
    let floor = allowed.floor_is g.T.Tag.ops g.T.Tag.fraction g.T.Tag.is_value c.args.self.now c.self.inside.queued is c.args.at c.of_moment-t.result c.share_floor-floor.result c.of_moment-t.ensures (subst (λ q. c.share_floor-floor.result ≡ floor_by g.T.Tag.ops q.config.shares (c.self.inside.queued == 0) q.progress c.of_moment-t.result) c.self.view_is compared) in
    allowed.tags_out_of_range g.T.Tag.ops g.T.Tag.fraction g.T.Tag.is_value c.args.self.now c.self.inside.queued is g.met.T.Tag.exact.same (minus_nothing g.T.Tag.ops g.T.Tag.fraction g.T.Tag.is_value g.met.T.Tag.exact) c.args.client c.args.params c.args.at c.in-Some.key entry held c.if-self.false c.needed_shift.result c.of_moment-t.result c.of_moment-t.ensures (amount_is g.T.Tag.ops c.args.self.now.config.shares c.args.self.now.roster.entries c.in-Some.key c.at-rec.result.now at_key c.of_moment-t.result c.needed_shift.result (λ arriving same. c.needed_shift.ensures.value arriving (same ∙ sym c.is_idle-idle.ensures.value))) c.in_ok-shift.shift c.in_ok-shift.was (sym can ∙ c.if-not-can_shift_by.false) c.at-rec.result.now at_key c.tags_for-assigned.result c.share_floor-floor.result floor c.tags_for-assigned.ensures.assigned c.in_default-assigned.is

pub returns-clause-outcome : goal.returns-clause-outcome
returns-clause-outcome g c =
    let is = subst (λ q. IsQueue g.T.Tag.ops g.T.Tag.fraction g.T.Tag.is_value q c.self.inside.queued) c.self.view_is c.self.invariant.0 in
    let entry = subst (λ q. entry_keyed c.in-Some.key q.roster.entries ≡ entry_named c.args.client q.roster.entries) c.self.view_is c.in-Some.ensures.entry in
    let held = subst (λ q. is_some (entry_keyed c.in-Some.key q.roster.entries) ≡ true) c.self.view_is c.in-Some.ensures.held in
    let can = subst (λ q. c.can_shift_by.result ≡ can_shift_by g.T.Tag.ops c.in_ok-shift.shift (clients_in q.roster.entries)) c.needed_shift.ensures.same c.can_shift_by.ensures in
    let at_key = subst (λ q. record_at c.in-Some.key q.roster.entries ≡ Some c.at-rec.result.now) c.self.view_is c.at-rec.ensures.value in
    let compared = c.share_floor-floor.ensures ∙ ap (λ shares. floor_by g.T.Tag.ops shares (c.self.inside.queued == 0) c.self.inside.progress c.of_moment-t.result) c.shares.ensures in
    let floor = allowed.floor_is g.T.Tag.ops g.T.Tag.fraction g.T.Tag.is_value c.args.self.now c.self.inside.queued is c.args.at c.of_moment-t.result c.share_floor-floor.result c.of_moment-t.ensures (subst (λ q. c.share_floor-floor.result ≡ floor_by g.T.Tag.ops q.config.shares (c.self.inside.queued == 0) q.progress c.of_moment-t.result) c.self.view_is compared) in
    let moments = moments_are_values g.T.Tag.ops g.T.Tag.fraction g.T.Tag.is_value g.met.T.Tag.exact in
    let moment : g.T.Tag.is_value (g.T.Tag.fraction (g.T.Tag.ops.of_moment c.args.at)) = search rules in
    let is_value = λ (tag : g.row.T.Denot). g.T.Tag.is_value (g.T.Tag.fraction tag) in
    let arrived = subst is_value (sym c.of_moment-t.ensures) moment in
    let least = subst is_value (sym c.share_floor-floor.ensures) (floor_value g.T.Tag.ops g.T.Tag.fraction g.T.Tag.is_value c.shares.result (c.self.inside.queued == 0) c.self.inside.progress c.of_moment-t.result c.self.invariant.0.progress arrived) in
    let value = weights_are_values g.T.Tag.ops g.T.Tag.fraction g.T.Tag.is_value g.met.T.Tag.exact c.at-rec.result.now.spacings c.at-rec.result.now.previous c.args.params c.of_moment-t.result c.share_floor-floor.result c.in-Some-assigned.tags least (sym c.tags_for-assigned.ensures.value ∙ ap in_range c.in-Some-assigned.is) in
    let again = record_at_again g (goal.at.returns-clause-outcome g c).After-slack_for-slack in
    let left = c.slack_for-slack.ensures.value ∙ ap (λ rec. slack_of g.T.Tag.ops rec.previous c.in-Some-assigned.tags c.of_moment-t.result c.share_floor-floor.result) again in
    let not_below = c.slack_for-slack.ensures.not_below c.args.params (ap (λ rec. next_tags g.T.Tag.ops rec.spacings rec.previous c.args.params c.of_moment-t.result c.share_floor-floor.result) again ∙ sym c.tags_for-assigned.ensures.value ∙ ap in_range c.in-Some-assigned.is) in
    allowed.is_tagged g.T.Tag.ops g.T.Tag.fraction g.T.Tag.is_value c.args.self.now c.self.inside.queued is g.met.T.Tag.exact.same (minus_nothing g.T.Tag.ops g.T.Tag.fraction g.T.Tag.is_value g.met.T.Tag.exact) c.args.client c.args.params c.args.at c.in-Some.key entry held c.if-self.false c.needed_shift.result c.of_moment-t.result c.of_moment-t.ensures (amount_is g.T.Tag.ops c.args.self.now.config.shares c.args.self.now.roster.entries c.in-Some.key c.at-rec.result.now at_key c.of_moment-t.result c.needed_shift.result (λ arriving same. c.needed_shift.ensures.value arriving (same ∙ sym c.is_idle-idle.ensures.value))) c.in_ok-shift.shift c.in_ok-shift.was (sym can ∙ c.if-not-can_shift_by.false) c.at-rec.result.now at_key c.tags_for-assigned.result c.share_floor-floor.result floor c.tags_for-assigned.ensures.assigned c.in-Some-assigned.tags c.slack_for-slack.result c.in-Some-assigned.is left not_below c.tags_for-assigned.ensures.follows value
