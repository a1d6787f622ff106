-- The record under the key is that of the client with a first request.
use Rattle.std.proofs.Common.{◌≡◌, sym, ap, ◌∙◌, subst}
use Rattle.std.specs.Prelude.{Option, Result, Ok, Err, IfOk, IfSome, is_some, true, drop, slice_get}
use Rattle.std.specs.Option.{option_and_then}
use Rattle.dmc_adjust.specs.Changes.{popped, is_reducible}
use Rattle.dmc_client.specs.Record.{Rec, client_of}
use Rattle.dmc_roster.specs.Entries.{record_at}
use Rattle.dmc_tag.specs.Rules.{can_grant}
use Rattle.dmc_tag.specs.Spacing.{spacings_of}
use Rattle.dmc_pull.specs.Queue.{Queue}
use Rattle.dmc_pull.specs.internal.Choice.{first_at}
use Rattle.dmc_pull.proofs.Pull.Grants.{asked, spaced, of_first}
use Rattle.dmc_pull.proofs.Pull.Pulls.{same_some}
use Rattle.dmc_pull.proofs.Common.Replaced.{waits, request_is, first_named}
use Rattle.dmc_pull.proofs.Clients.Updating.{said_of}
use Rattle.dmc_pull.proofs.queue.PullQueue.can_grant.Goals as goal

if_ok : {A E : Type 0} (P Q : A → Type 0) (r : Result A E) → ((a : A) → P a → Q a) → IfOk r P → IfOk r Q
if_ok P Q (Ok a) f h = f a h
if_ok P Q (Err e) f h = tt

pub returns-clause-reducible : goal.returns-clause-reducible
returns-clause-reducible g c =
    let q = c.self.inside in
    let rec = c.at-rec.result.now in
    let reducible = λ (amount : Option g.row.T.Denot) (r : Rec g.row.T.Denot). is_reducible g.T.Tag.ops amount (popped r) ≡ true in
    subst (λ v. IfOk c.reduction_for.result (λ amount. IfSome (record_at c.args.key v.roster.entries) (reducible amount))) c.self.view_is
    (if_ok (λ amount. reducible amount rec) _ c.reduction_for.result (λ amount h. said_of (reducible amount) c.args.key q.roster.entries rec c.at-rec.ensures.value h) c.reduction_for.ensures.reducible)

pub returns-clause-value : goal.returns-clause-value
returns-clause-value g c =
    let ops = g.T.Tag.ops in
    let q = c.self.inside in
    let v : Queue g.row.T.Denot = record { config = q.config; roster = q.roster; heads = q.heads.0; last_moment = q.last_moment; progress = q.progress } in
    let is = c.self.invariant.0 in
    let key = c.args.key in
    let hz = q.config.hz in
    let first = first_named q.roster.entries key (subst (λ v. is_some (first_at key v.roster.entries) ≡ true) (sym c.self.view_is) c.requires) in
    let w = waits q.roster.entries key first.0 first.1 in
    let same = asked ops g.T.Tag.fraction g.T.Tag.is_value _ q.queued is key first.0 w c.at-rec.result.now c.at-rec.ensures.value in
    let read = ap (option_and_then (λ rec. slice_get rec.requests 0)) c.at-rec.ensures.value in
    let request = same_some (sym c.head.ensures.value ∙ c.unwrap-request.ensures) (sym read ∙ request_is w) in
    let result = c.reduction_for.result in
    let tested =
    subst (λ rec. spacings_of ops hz rec.info ≡ Ok rec.spacings → w.request.cost ≡ c.unwrap-request.result.cost → result ≡ can_grant ops hz (record { client = client_of w.entry.id rec; request = w.request; others = drop 1 rec.requests })) same
    (c.reduction_for.ensures.client w.entry.id hz w.request) (spaced ops g.T.Tag.fraction g.T.Tag.is_value _ q.queued is key first.0 w) (ap (λ r. r.cost) (sym request)) in
    subst (λ v. IfSome (first_at key v.roster.entries) (λ found. result ≡ can_grant ops v.config.hz found)) c.self.view_is
    (of_first ops v v key first.0 q.last_moment is.distinct w (λ found. result ≡ can_grant ops hz found) tested)
