-- The client that is named has a first request, which is the one that is taken out.
use Rattle.std.proofs.Common.{◌≡◌, ◌≤◌, sym, ap, ◌∙◌, subst}
use Rattle.std.specs.Prelude.{is_some, true, slice_get, IfSome}
use Rattle.std.specs.Option.{option_map, option_and_then}
use Rattle.dmc_tag.proofs.ForCallers.{due_from_ceil}
use Rattle.dmc_adjust.specs.Changes.{is_reducible, popped}
use Rattle.dmc_roster.specs.Entries.{record_at, with_record_at, AreDistinct}
use Rattle.dmc_pull.specs.internal.Choice.{IsFirstOf, first_at, after_grant}
use Rattle.dmc_pull.proofs.Common.Replaced.{waits, request_is, first_request, left_as, one_at_least, granted}
use Rattle.dmc_pull.proofs.Clients.Updating.{said_of}
use Rattle.dmc_pull.proofs.Common.Within.{granted_within}
use Rattle.dmc_pull.proofs.queue.PullQueue.take_out.Goals as goal

pub grant_first-requires : goal.grant_first-requires
grant_first-requires g c =
    let found = ap (λ v. record_at c.args.key v.roster.entries) (sym c.self.view_is) ∙ c.at_mut-rec.ensures.value in
    subst (λ o. IfSome o (λ rec. is_reducible g.T.Tag.ops c.args.amount (popped rec) ≡ true)) found c.requires.reducible

pub overflow_sub-self : goal.overflow_sub-self
overflow_sub-self g c =
    let ops = g.T.Tag.ops in
    let q = c.self.inside in
    let d = c.self.invariant.0.distinct in
    let first : IsFirstOf q.roster.entries c.args.key c.args.client = subst (λ v. IsFirstOf v.roster.entries c.args.key c.args.client) (sym c.self.view_is) c.requires.first in
    one_at_least ops g.T.Tag.fraction g.T.Tag.is_value (due_from_ceil g.T.Tag.ops g.T.Tag.fraction g.T.Tag.is_value g.met.T.Tag.exact) _ q.queued c.args.key c.args.client c.args.amount c.args.at d c.self.invariant.0 (waits q.roster.entries c.args.key c.args.client first)

pub invariant_of-self : goal.invariant_of-self
invariant_of-self g c =
    let ops = g.T.Tag.ops in
    let q = c.self.inside in
    let d = c.self.invariant.0.distinct in
    let first : IsFirstOf q.roster.entries c.args.key c.args.client = subst (λ v. IsFirstOf v.roster.entries c.args.key c.args.client) (sym c.self.view_is) c.requires.first in
    let later : q.last_moment ≤ c.args.at = subst (λ v. v.last_moment ≤ c.args.at) (sym c.self.view_is) c.requires.later in
    let waiting = waits q.roster.entries c.args.key c.args.client first in
    let due_from = due_from_ceil g.T.Tag.ops g.T.Tag.fraction g.T.Tag.is_value g.met.T.Tag.exact in
    let rec = c.grant_first.new.rec in
    let same = left_as ops g.T.Tag.fraction g.T.Tag.is_value due_from _ q.queued c.args.key c.args.client c.args.amount c.args.at d c.self.invariant.0 waiting c.at_mut-rec.result.now rec c.at_mut-rec.ensures.value c.grant_first.ensures.rest in (
      granted ops g.T.Tag.fraction g.T.Tag.is_value due_from _ q.queued c.args.key c.args.client c.args.amount c.args.at d c.self.invariant.0 waiting q.progress c.self.invariant.0.progress later rec same c.grant_first.ensures.kept c.first_tags-tags.result c.first_tags-tags.ensures c.renew.new.heads c.renew.ensures,
      granted_within c.self.invariant.1 d waiting c.args.amount (with_record_at q.roster c.args.key rec).entries (ap (λ r. (with_record_at q.roster c.args.key r).entries) same),
    )

pub unwrap-request-requires : goal.unwrap-request-requires
unwrap-request-requires g c =
    let first : IsFirstOf c.self.inside.roster.entries c.args.key c.args.client =
    subst (λ v. IsFirstOf v.roster.entries c.args.key c.args.client) (sym c.self.view_is) c.requires.first in
    let read = ap (option_and_then (λ rec. slice_get rec.requests 0)) c.at_mut-rec.ensures.value in
    ap is_some (c.grant_first.ensures.value ∙ sym read ∙ request_is (waits c.self.inside.roster.entries c.args.key c.args.client first))

pub returns-clause-distinct : goal.returns-clause-distinct
returns-clause-distinct g c = subst (λ v. AreDistinct v.roster.entries) c.self.view_is c.self.invariant.0.distinct

pub returns-clause-request : goal.returns-clause-request
returns-clause-request g c =
    let read = ap (option_and_then (λ rec. slice_get rec.requests 0)) c.at_mut-rec.ensures.value in
    sym c.unwrap-request.ensures
    ∙ c.grant_first.ensures.value
    ∙ sym read
    ∙ first_request c.self.inside.roster.entries c.args.key
    ∙ ap (λ v. option_map (λ found. found.request) (first_at c.args.key v.roster.entries)) c.self.view_is

pub returns-clause-roster : goal.returns-clause-roster
returns-clause-roster g c =
    let q = c.self.inside in
    let roster = with_record_at q.roster c.args.key c.grant_first.new.rec in
    subst (λ v. IfSome (record_at c.args.key v.roster.entries) (λ rec. roster ≡ with_record_at v.roster c.args.key (after_grant g.T.Tag.ops c.args.amount rec)))
    c.self.view_is (said_of (λ rec. roster ≡ with_record_at q.roster c.args.key (after_grant g.T.Tag.ops c.args.amount rec)) c.args.key q.roster.entries c.at_mut-rec.result.now c.at_mut-rec.ensures.value (ap (with_record_at q.roster c.args.key) c.grant_first.ensures.rest))

pub returns-clause-config : goal.returns-clause-config
returns-clause-config g c = ap (λ v. v.config) c.self.view_is

pub returns-clause-progress : goal.returns-clause-progress
returns-clause-progress g c = ap (λ v. v.progress) c.self.view_is
