use Rattle.std.proofs.Common.{◌≡◌, ◌≤◌, ℕ, true, [], Ok, ◌∙◌, sym, ap, subst}
use Rattle.std.specs.Prelude.{IfSome}
use Rattle.dmc_client.specs.Record.{IsRecord}
use Rattle.dmc_roster.specs.Entries.{record_at, with_record_at}
use Rattle.dmc_tag.specs.State.{effective}
use Rattle.dmc_tag.specs.Spacing.{spacings_of}
use Rattle.dmc_tag.specs.Rules.{can_update, changes_reservation}
use Rattle.dmc_tag.proofs.ForCallers.{due_from_ceil}
use Rattle.dmc_pull.specs.Queue.{state_of}
use Rattle.dmc_pull.proofs.Clients.Updating.{HasClient, client_at, of_lent, with_rates, updated_is, updated_step}
use Rattle.dmc_pull.proofs.Common.Within.{changed_within}
use Rattle.dmc_pull.proofs.queue.PullQueueScheduler.update_info.Goals as goal

pub set_info-requires-clause-not_busy : goal.set_info-requires-clause-not_busy
set_info-requires-clause-not_busy g c =
    let key = c.in_ok-key.key in
    let found = ap (λ x. record_at key x.roster.entries) (sym c.self.view_is) ∙ c.at_mut.ensures.value in
    subst (λ o. IfSome o (λ rec. changes_reservation rec.info c.args.info ≡ true → rec.requests ≡ [])) found c.in_ok-key.ensures.updates.not_busy

pub invariant_of-self : goal.invariant_of-self
invariant_of-self g c =
    let q = c.self.inside in
    let ops = g.T.Tag.ops in
    let key = c.in_ok-key.key in
    let spacings = c.in_ok-key.spacings in
    let now = client_at c.args.client key c.args.self.now.roster.entries c.in_ok-key.ensures.updates.key c.in_ok-key.ensures.updates.held c.in_ok-key.ensures.updates.distinct in
    let h = subst (λ x. HasClient c.args.client key x.roster.entries) (sym c.self.view_is) now in
    let exact = ap (λ x. spacings_of ops x.config.hz c.args.info) c.self.view_is ∙ c.in_ok-key.ensures.updates.exact in
    let later : q.last_moment ≤ c.effective-at.result = subst (λ (n : ℕ). n ≤ c.effective-at.result) (sym (ap (λ x. x.last_moment) c.self.view_is)) c.effective-at.ensures.later in
    let is = of_lent (λ rec. c.set_info.new.self ≡ with_rates c.args.info spacings rec) key q.roster.entries h.entry h.keyed c.at_mut.result.now c.at_mut.ensures.value c.set_info.ensures.value in
    let holds = subst (IsRecord ops) is c.set_info.ensures.kept in
    let roster = with_record_at q.roster key c.set_info.new.self in
    let changed = ap (with_record_at q.roster key) is in (
      updated_is ops g.T.Tag.fraction g.T.Tag.is_value (due_from_ceil g.T.Tag.ops g.T.Tag.fraction g.T.Tag.is_value g.met.T.Tag.exact) c.self.invariant.0 h c.args.info spacings exact holds roster changed c.effective-at.result later,
      changed_within c.self.invariant.1 h.at h.keyed (with_rates c.args.info spacings h.entry.rec) (λ tags. tags) roster.entries (ap (λ r. r.entries) changed),
    )

pub returns : goal.returns
returns g c =
    let q = c.self.inside in
    let ops = g.T.Tag.ops in
    let key = c.in_ok-key.key in
    let spacings = c.in_ok-key.spacings in
    let now = client_at c.args.client key c.args.self.now.roster.entries c.in_ok-key.ensures.updates.key c.in_ok-key.ensures.updates.held c.in_ok-key.ensures.updates.distinct in
    let h = subst (λ x. HasClient c.args.client key x.roster.entries) (sym c.self.view_is) now in
    let moment = subst (λ x. c.effective-at.result ≡ effective (state_of x) c.args.at) (sym c.self.view_is) c.effective-at.ensures.value in
    let may = subst (λ x. Ok tt ≡ can_update ops (state_of x) c.args.client c.args.info) (sym c.self.view_is) c.in_ok-key.ensures.outcome in
    let is = of_lent (λ rec. c.set_info.new.self ≡ with_rates c.args.info spacings rec) key q.roster.entries h.entry h.keyed c.at_mut.result.now c.at_mut.ensures.value c.set_info.ensures.value in
    rw (← c.self.view_is) (updated_step ops g.T.Tag.fraction g.T.Tag.is_value (record { config = q.config; roster = q.roster; heads = q.heads.0; last_moment = q.last_moment; progress = q.progress }) h c.args.info spacings (with_record_at q.roster key c.set_info.new.self) (ap (with_record_at q.roster key) is) may c.args.at c.effective-at.result moment)
