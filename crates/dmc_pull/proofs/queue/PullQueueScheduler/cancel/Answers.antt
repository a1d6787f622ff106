use Rattle.std.proofs.Common.{◌≡◌, Some, length, sym, ap, ◌∙◌, arith}
use Rattle.std.specs.Prelude.{◌==◌, ◌≤◌, filter, if◌then◌else◌, None}
use Rattle.dmc_client.specs.Record.{Rec, without_token}
use Rattle.dmc_tag.specs.Cancel.{has_token, charges_of}
use Rattle.dmc_tag.proofs.ForCallers.{tag_order}
use Rattle.dmc_pull.specs.Queue.{Queue, state_of}
use Rattle.dmc_pull.proofs.Clients.Updating.{HasClient, client_at, of_lent, unnamed}
use Rattle.dmc_pull.proofs.Cancel.TakenBack.{fewer, head_is, none_queued, queue_is, step_is, refused_cancel}
use Rattle.dmc_pull.proofs.Cancel.InRange.{taken_back_within}
use Rattle.dmc_pull.proofs.queue.PullQueueScheduler.cancel.Given.{Over}
use Rattle.dmc_pull.proofs.queue.PullQueueScheduler.cancel.Goals as goal
use Rattle.dmc_pull.proofs.queue.PullQueueScheduler.cancel.Goals.{After-first_tags-tags}

abbrev before : (g : Over) → After-first_tags-tags g → Queue g.row.T.Denot
before g c = let q = c.self.inside in record { config = q.config; roster = q.roster; heads = q.heads.0; last_moment = q.last_moment; progress = q.progress }

-- the client that is named
here : (g : Over) (c : After-first_tags-tags g) → HasClient c.args.client c.in-Some.key c.self.inside.roster.entries
here g c = client_at c.args.client c.in-Some.key c.self.inside.roster.entries c.in-Some.ensures.entry c.in-Some.ensures.held c.find.ensures.distinct

-- what is said of the record that is lent is said of the client's
of_here : (g : Over) (c : After-first_tags-tags g) (P : Rec g.row.T.Denot → Type 0) → P c.at_mut-rec.result.now → P (here g c).entry.rec
of_here g c P = of_lent P c.in-Some.key c.self.inside.roster.entries (here g c).entry (here g c).keyed c.at_mut-rec.result.now c.at_mut-rec.ensures.value

counted : (g : Over) (c : After-first_tags-tags g) → c.cancel-count.result ≡ length (filter (has_token c.args.token) (here g c).entry.rec.requests)
counted g c = of_here g c (λ rec. c.cancel-count.result ≡ length (filter (has_token c.args.token) rec.requests)) c.cancel-count.ensures.count

left_is : (g : Over) (c : After-first_tags-tags g) → c.cancel-count.new.self ≡ without_token g.T.Tag.ops c.args.token (charges_of g.T.Tag.ops c.args.counting (Some (here g c).entry.rec.spacings)) (here g c).entry.rec
left_is g c = of_here g c (λ rec. c.cancel-count.new.self ≡ without_token g.T.Tag.ops c.args.token (charges_of g.T.Tag.ops c.args.counting (Some rec.spacings)) rec) c.cancel-count.ensures.rest

pub returns-in_default : goal.returns-in_default
returns-in_default g c =
    let q = c.self.inside in
    let s = state_of (record { config = q.config; roster = q.roster; heads = q.heads.0; last_moment = q.last_moment; progress = q.progress }) in
    rw (← c.self.view_is) (refused_cancel g.T.Tag.ops s c.args.client c.args.token c.args.counting (unnamed c.args.client q.roster.entries c.find.result c.find.ensures.key c.in_default.is))

-- no more requests are taken back than are queued
within : (g : Over) (c : After-first_tags-tags g) → c.cancel-count.result ≤ c.self.inside.queued
within g c =
    let order = tag_order g.T.Ord.cmp g.T.Tag.ops.compare g.met.T.Ord.total g.met.T.Tag.compares in
    omega (arith, fewer g.T.Tag.ops g.T.Tag.fraction g.T.Tag.is_value g.met.T.Tag.exact order c.self.invariant.0 (here g c) c.args.token c.args.counting c.cancel-count.result (counted g c))

pub overflow_sub-self : goal.overflow_sub-self
overflow_sub-self g c = within g (goal.at.overflow_sub-self g c).After-first_tags-tags

pub renew_queued-requires : goal.renew_queued-requires
renew_queued-requires g c =
    let ops = g.T.Tag.ops in
    let order = tag_order g.T.Ord.cmp ops.compare g.met.T.Ord.total g.met.T.Tag.compares in
    let at = (goal.at.renew_queued-requires g c).After-first_tags-tags in
    let queued = of_here g at (λ rec. c.len-queued.result ≡ length rec.requests) c.len-queued.ensures in
    record {
      head = head_is ops g.T.Tag.fraction g.T.Tag.is_value g.met.T.Tag.exact order c.self.invariant.0 (here g at) c.args.token c.args.counting ∙ ap (λ n. if n == 0 then None else Some c.args.client) (sym queued);
      none = λ e. none_queued ops g.T.Tag.fraction g.T.Tag.is_value g.met.T.Tag.exact order c.self.invariant.0 (here g at) c.args.token c.args.counting c.cancel-count.new.self (left_is g at) c.first_tags-tags.result c.first_tags-tags.ensures (ap (λ n. n == 0) (sym queued) ∙ e);
    }

pub overflow_cast-result : goal.overflow_cast-result
overflow_cast-result g c = let few = within g (goal.at.overflow_cast-result g c).After-first_tags-tags in omega (arith, few, c.self.invariant.0.bound)

pub invariant_of-self : goal.invariant_of-self
invariant_of-self g c =
    let ops = g.T.Tag.ops in
    let order = tag_order g.T.Ord.cmp ops.compare g.met.T.Ord.total g.met.T.Tag.compares in
    let at = (goal.at.invariant_of-self g c).After-first_tags-tags in (
      queue_is ops g.T.Tag.fraction g.T.Tag.is_value g.met.T.Tag.exact order c.self.invariant.0 (here g at) c.args.token c.args.counting c.cancel-count.new.self (left_is g at) c.cancel-count.ensures.kept
          c.first_tags-tags.result c.first_tags-tags.ensures c.renew_queued.new.heads c.renew_queued.ensures c.cancel-count.result (counted g at),
      taken_back_within ops order (here g at).at c.self.inside.range c.self.invariant.1 c.cancel-count.new.self c.cancel-count.ensures.kept c.first_tags-tags.result c.first_tags-tags.ensures c.previous.result.now.p (ap (λ x. x.p) c.previous.ensures.value)
          c.widen_between.new.range c.widen_between.ensures,
    )

pub returns : goal.returns
returns g c =
    let ops = g.T.Tag.ops in
    let order = tag_order g.T.Ord.cmp ops.compare g.met.T.Ord.total g.met.T.Tag.compares in
    let at = (goal.at.returns g c).After-first_tags-tags in
    rw (← c.self.view_is) (step_is ops g.T.Tag.fraction g.T.Tag.is_value g.met.T.Tag.exact order c.self.invariant.0 (here g at) c.args.token c.args.counting c.cancel-count.new.self (left_is g at) c.renew_queued.new.heads c.cancel-count.result (counted g at))
