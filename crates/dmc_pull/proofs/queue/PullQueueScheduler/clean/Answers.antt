use Rattle.std.proofs.Common.{◌≡◌, ◌≤◌, ℕ, sym, ap, subst}
use Rattle.dmc_tag.specs.State.{effective}
use Rattle.dmc_tag.proofs.ForCallers.{due_from_ceil}
use Rattle.dmc_pull.specs.Queue.{state_of}
use Rattle.dmc_pull.proofs.Clean.Aged.{cleaned_is, cleaned_step, cleaned_within}
use Rattle.dmc_pull.proofs.queue.PullQueueScheduler.clean.Goals as goal

pub invariant_of-self : goal.invariant_of-self
invariant_of-self g c =
    let q = c.self.inside in
    let t = c.effective-at.result in
    let distinct = c.self.invariant.0.distinct in
    let later : q.last_moment ≤ t = subst (λ (n : ℕ). n ≤ t) (sym (ap (λ x. x.last_moment) c.self.view_is)) c.effective-at.ensures.later in
    let e = rw (c.idle_age-idle_age.ensures.value, c.erase_age-erase_age.ensures.value) at c.age_all.ensures.value in (
      cleaned_is g.T.Tag.ops g.T.Tag.fraction g.T.Tag.is_value (due_from_ceil g.T.Tag.ops g.T.Tag.fraction g.T.Tag.is_value g.met.T.Tag.exact) c.self.invariant.0 distinct c.age_all.new.roster t e c.age_all.ensures.kept later,
      cleaned_within t q.config.idle_age q.config.erase_age c.self.invariant.1 c.age_all.new.roster.entries e,
    )

pub returns : goal.returns
returns g c =
    let q = c.self.inside in
    let t = c.effective-at.result in
    let moment = subst (λ x. t ≡ effective (state_of x) c.args.at) (sym c.self.view_is) c.effective-at.ensures.value in
    let e = rw (c.idle_age-idle_age.ensures.value, c.erase_age-erase_age.ensures.value) at c.age_all.ensures.value in
    let idled = rw (c.idle_age-idle_age.ensures.value, c.erase_age-erase_age.ensures.value) at c.count_idled-idled.ensures.value in
    let erased = rw c.erase_age-erase_age.ensures.value at c.count_erased-erased.ensures.value in
    rw (← c.self.view_is) (cleaned_step g.T.Tag.ops g.T.Tag.fraction g.T.Tag.is_value (record { config = q.config; roster = q.roster; heads = q.heads.0; last_moment = q.last_moment; progress = q.progress }) c.age_all.new.roster c.args.at t c.count_idled-idled.result c.count_erased-erased.result moment e idled erased)
