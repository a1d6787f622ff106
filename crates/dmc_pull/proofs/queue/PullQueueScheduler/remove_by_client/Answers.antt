use Rattle.std.proofs.Common.{◌≡◌, length, ap, subst, arith}
use Rattle.dmc_client.specs.Record.{IsRecord}
use Rattle.dmc_roster.specs.Entries.{with_record_at}
use Rattle.dmc_pull.specs.Queue.{state_of}
use Rattle.dmc_pull.proofs.Clients.Updating.{client_at, of_lent, unnamed}
use Rattle.dmc_pull.proofs.Remove.Removing.{emptied, has_head, fewer, removed_is, removed_step, refused_remove}
use Rattle.dmc_pull.proofs.Common.Within.{emptied_within}
use Rattle.dmc_pull.proofs.queue.PullQueueScheduler.remove_by_client.Goals as goal

pub returns-in_default : goal.returns-in_default
returns-in_default g c =
    let q = c.self.inside in
    let s = state_of (record { config = q.config; roster = q.roster; heads = q.heads.0; last_moment = q.last_moment; progress = q.progress }) in
    rw (← c.self.view_is) (refused_remove g.T.Tag.ops g.T.Tag.fraction g.T.Tag.is_value s c.args.client (unnamed c.args.client q.roster.entries c.find.result c.find.ensures.key c.in_default.is))

pub clear-requires : goal.clear-requires
clear-requires g c =
    let q = c.self.inside in
    let h = client_at c.args.client c.in-Some.key q.roster.entries c.in-Some.ensures.entry c.in-Some.ensures.held c.find.ensures.distinct in
    let all = of_lent (λ rec. c.drain-count.result ≡ length rec.requests) c.in-Some.key q.roster.entries h.entry h.keyed c.at_mut.result.now c.at_mut.ensures.value c.drain-count.ensures.count in
    has_head g.T.Tag.ops c.self.invariant.0.heads h c.drain-count.result all

pub overflow_sub-self : goal.overflow_sub-self
overflow_sub-self g c =
    let q = c.self.inside in
    let h = client_at c.args.client c.in-Some.key q.roster.entries c.in-Some.ensures.entry c.in-Some.ensures.held c.find.ensures.distinct in
    let all = of_lent (λ rec. c.drain-count.result ≡ length rec.requests) c.in-Some.key q.roster.entries h.entry h.keyed c.at_mut.result.now c.at_mut.ensures.value c.drain-count.ensures.count in
    omega (arith, fewer h q.queued c.drain-count.result c.self.invariant.0.counted all)

pub overflow_cast-result : goal.overflow_cast-result
overflow_cast-result g c =
    let q = c.self.inside in
    let h = client_at c.args.client c.in-Some.key q.roster.entries c.in-Some.ensures.entry c.in-Some.ensures.held c.find.ensures.distinct in
    let all = of_lent (λ rec. c.drain-count.result ≡ length rec.requests) c.in-Some.key q.roster.entries h.entry h.keyed c.at_mut.result.now c.at_mut.ensures.value c.drain-count.ensures.count in
    omega (arith, fewer h q.queued c.drain-count.result c.self.invariant.0.counted all, c.self.invariant.0.bound)

pub invariant_of-self : goal.invariant_of-self
invariant_of-self g c =
    let q = c.self.inside in
    let h = client_at c.args.client c.in-Some.key q.roster.entries c.in-Some.ensures.entry c.in-Some.ensures.held c.find.ensures.distinct in
    let all = of_lent (λ rec. c.drain-count.result ≡ length rec.requests) c.in-Some.key q.roster.entries h.entry h.keyed c.at_mut.result.now c.at_mut.ensures.value c.drain-count.ensures.count in
    let is = of_lent (λ rec. c.drain-count.new.self ≡ emptied rec) c.in-Some.key q.roster.entries h.entry h.keyed c.at_mut.result.now c.at_mut.ensures.value c.drain-count.ensures.rest in
    let holds = subst (IsRecord g.T.Tag.ops) is c.drain-count.ensures.kept in
    let roster = with_record_at q.roster c.in-Some.key c.drain-count.new.self in
    let changed = ap (with_record_at q.roster c.in-Some.key) is in (
      removed_is g.T.Tag.ops g.T.Tag.fraction g.T.Tag.is_value c.self.invariant.0 h holds roster changed c.clear.new.heads c.clear.ensures c.drain-count.result all,
      emptied_within c.self.invariant.1 h.at h.keyed roster.entries (ap (λ r. r.entries) changed),
    )

pub returns : goal.returns
returns g c =
    let q = c.self.inside in
    let h = client_at c.args.client c.in-Some.key q.roster.entries c.in-Some.ensures.entry c.in-Some.ensures.held c.find.ensures.distinct in
    let all = of_lent (λ rec. c.drain-count.result ≡ length rec.requests) c.in-Some.key q.roster.entries h.entry h.keyed c.at_mut.result.now c.at_mut.ensures.value c.drain-count.ensures.count in
    let is = of_lent (λ rec. c.drain-count.new.self ≡ emptied rec) c.in-Some.key q.roster.entries h.entry h.keyed c.at_mut.result.now c.at_mut.ensures.value c.drain-count.ensures.rest in
    rw (← c.self.view_is) (removed_step g.T.Tag.ops g.T.Tag.fraction g.T.Tag.is_value (record { config = q.config; roster = q.roster; heads = q.heads.0; last_moment = q.last_moment; progress = q.progress }) h (with_record_at q.roster c.in-Some.key c.drain-count.new.self) (ap (with_record_at q.roster c.in-Some.key) is) c.clear.new.heads c.drain-count.result all)
