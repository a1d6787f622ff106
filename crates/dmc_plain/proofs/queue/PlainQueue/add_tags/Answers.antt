use Rattle.std.proofs.Common.{◌≡◌, ◌∙◌, false, length, Result, Ok, Err, ap, sym, subst, arith}
use Rattle.std.specs.Prelude.{nat_le}
use Rattle.std.specs.Result.{result_map_both}
use Rattle.std.proofs.lemmas.Bool.{lt-leb}
use Rattle.dmc_types.specs.Limits.{max_requests}
use Rattle.dmc_types.specs.declared.refusal.Refusal.{Refusal}
use Rattle.dmc_tag.specs.Outcome.{◌>>=◌}
use Rattle.dmc_tag.specs.Rules.{shift_of, floor_by, share_floor, can_shift_by, assigned, addition_with, slack_of, add_tags}
use Rattle.dmc_tag.specs.State.{State, queued_requests, is_nothing_queued}
use Rattle.dmc_tag.specs.declared.reply.Tags.{Tags}
use Rattle.dmc_lemmas.proofs.Options.{err_is}
use Rattle.dmc_plain.specs.internal.Arrivals.{addition_of}
use Rattle.dmc_plain.proofs.Added.{assigns, is_arrival}
use Rattle.dmc_plain.proofs.queue.PlainQueue.add_tags.Given.{Over}
use Rattle.dmc_plain.proofs.queue.PlainQueue.add_tags.Goals.{After-assigned}
use Rattle.dmc_plain.proofs.queue.PlainQueue.add_tags.Goals as goal

-- ---- what the paths share

shifts : (g : Over) (c : After-assigned g) → shift_of g.T.Tag.ops c.args.self.now.config.shares c.args.self.now.clients c.index-arriving.result.now c.args.t ≡ Ok c.in_ok-shift.shift
shifts g c =
    ap (λ cs. shift_of g.T.Tag.ops c.args.self.now.config.shares cs c.index-arriving.result.now c.args.t) (sym (c.deref-3.ensures.value ∙ ap (λ s. s.clients) c.self.view_is))
    ∙ ap (λ shares. shift_of g.T.Tag.ops shares c.deref-3.result.now c.index-arriving.result.now c.args.t) (sym (c.shares.ensures ∙ ap (λ (s : State g.row.T.Denot). s.config.shares) c.self.view_is))
    ∙ sym c.shift_of.ensures ∙ c.in_ok-shift.was

floor_is : (g : Over) (c : After-assigned g) → c.share_floor-floor.result ≡ share_floor g.T.Tag.ops c.args.self.now c.args.t
floor_is g c =
    let empty = c.empty.ensures ∙ ap (λ (s : State g.row.T.Denot). is_nothing_queued s.clients) (sym c.self.view_is) in
    c.share_floor-floor.ensures
    ∙ ap (λ shares. floor_by g.T.Tag.ops shares c.empty.result c.self.inside.progress c.args.t) c.shares-2.ensures
    ∙ ap (λ b. floor_by g.T.Tag.ops c.self.inside.config.shares b c.self.inside.progress c.args.t) empty
    ∙ ap (λ (s : State g.row.T.Denot). share_floor g.T.Tag.ops s c.args.t) c.self.view_is

result_is : (g : Over) (c : After-assigned g) → (result : Result (Tags g.row.T.Denot) Refusal) → c.assigned.result ≡ result →
    (result >>= λ tags. Ok (addition_with g.T.Tag.ops c.in_ok-shift.shift c.index-arriving.result.now.previous c.args.t (share_floor g.T.Tag.ops c.args.self.now c.args.t) tags)) ≡ add_tags g.T.Tag.ops c.args.self.now c.args.client c.args.params c.args.t
result_is g c result is =
    let count = ap (λ (s : State g.row.T.Denot). length (queued_requests s.clients)) c.self.view_is in
    let counted = c.count_requests.ensures ∙ ap (λ cs. length (queued_requests cs)) c.deref-2.ensures.value ∙ count in
    let room = subst (λ n. nat_le max_requests n ≡ false) counted (lt-leb max_requests c.count_requests.result (omega arith)) in
    let can = ap (can_shift_by g.T.Tag.ops c.in_ok-shift.shift) (sym (c.deref-4.ensures.value ∙ ap (λ (s : State g.row.T.Denot). s.clients) c.self.view_is)) ∙ sym c.can_shift_by.ensures ∙ c.if-not-can_shift_by.false in
    let hz = c.hz.ensures.value ∙ ap (λ (s : State g.row.T.Denot). s.config.hz) c.self.view_is in
    let tags = ap (λ n. assigned g.T.Tag.ops n c.index-arriving.result.now c.args.params c.args.t (share_floor g.T.Tag.ops c.args.self.now c.args.t)) (sym hz)
    ∙ ap (assigned g.T.Tag.ops c.hz.result c.index-arriving.result.now c.args.params c.args.t) (sym (floor_is g c)) ∙ sym c.assigned.ensures ∙ is in
    assigns g.T.Tag.ops _ c.args.self.now c.self.view_is c.args.client c.args.params c.args.t c.deref.result.now c.deref.ensures.value c.in-Some.index c.in-Some.ensures.bound
    c.in-Some.ensures.client c.index-arriving.result.now c.index-arriving.ensures c.in_ok-shift.shift room (shifts g c) can result tags

-- ---- the goals

pub returns-in_err-tags-clause-outcome : goal.returns-in_err-tags-clause-outcome
returns-in_err-tags-clause-outcome g c =
    ap (result_map_both (addition_of {T = g.row.T.Denot}) (λ (e : Refusal). e)) (err_is c.from_residual-in_err-tags.result c.in_err-tags.field-0.0 c.from_residual-in_err-tags.ensures.1)
    ∙ result_is g (goal.at.returns-in_err-tags-clause-outcome g c).After-assigned (Err c.in_err-tags.field-0.0) c.in_err-tags.was

pub returns-clause-outcome : goal.returns-clause-outcome
returns-clause-outcome g c =
    let after = (goal.at.returns-clause-outcome g c).After-assigned in
    let slack = c.slack_of-slack.ensures
    ∙ ap (λ floor. slack_of g.T.Tag.ops c.previous.result.now c.in_ok-tags.tags c.args.t floor) (floor_is g after)
    ∙ ap (λ previous. slack_of g.T.Tag.ops previous c.in_ok-tags.tags c.args.t (share_floor g.T.Tag.ops c.args.self.now c.args.t)) c.previous.ensures in
    ap (λ slack. Ok (record { shift = c.in_ok-shift.shift; tags = c.in_ok-tags.tags; slack = slack })) slack
    ∙ result_is g after (Ok c.in_ok-tags.tags) c.in_ok-tags.was

pub returns-clause-arrival : goal.returns-clause-arrival
returns-clause-arrival g c =
    is_arrival g.T.Tag.ops _ c.args.self.now c.self.view_is c.args.client c.args.params c.args.t c.deref.result.now c.deref.ensures.value c.in-Some.index c.in-Some.ensures.bound
    c.in-Some.ensures.client c.index-arriving.result.now c.index-arriving.ensures c.in_ok-shift.shift c.in_ok-tags.tags c.slack_of-slack.result (shifts g (goal.at.returns-clause-arrival g c).After-assigned)
