-- Each case is that of the client that is named; if a body is wrong, what the lemmas need is not there.
use Rattle.std.proofs.Common.{◌≡◌, true, false, refl, sym, ap, ◌∙◌}
use Rattle.dmc_types.specs.declared.config.AtLimit.TheVariants.{Allow}
use Rattle.dmc_pull.specs.internal.Choice.{first_at}
use Rattle.dmc_pull.specs.Queue.{state_of}
use Rattle.dmc_pull.proofs.Pull.Weighed.{is_not_allowing, has_first, free_is, none_is_free, any_is, nothing_answers, free_answers, any_answers, later_answers}
use Rattle.dmc_pull.proofs.queue.PullQueue.pull_by_weight.Goals as goal

pub returns-in_default : goal.returns-in_default
returns-in_default g c = (nothing_answers g.T.Tag.ops (state_of c.args.self.now) c.in_default.ensures, refl)

pub returns-then-free : goal.returns-then-free
returns-then-free g c =
    let ops = g.T.Tag.ops in
    let q = c.args.self.now in
    let key = c.in-Some.key in
    let client = c.in-Some.client in
    let free : c.in-Some.free ≡ true = assumption in
    free_answers ops (state_of q) (first_at key q.roster.entries) client (has_first ops q.last_moment q.roster.entries key client c.in-Some.free c.in-Some.ensures)
    (g.A.GrantTest.allows c.args.test.now) (state_of c.grant_priority.new.self) c.grant_priority.result
    (free_is ops q.last_moment q.roster.entries key client c.in-Some.free c.in-Some.ensures free) c.grant_priority.ensures

pub next_due-requires : goal.next_due-requires
next_due-requires g c =
    let free : c.in-Some.free ≡ false = assumption in
    none_is_free g.T.Tag.ops c.args.self.now.last_moment c.args.self.now.roster.entries c.in-Some.key c.in-Some.client c.in-Some.free c.in-Some.ensures free

pub returns-in-Allow : goal.returns-in-Allow
returns-in-Allow g c =
    let ops = g.T.Tag.ops in
    let q = c.args.self.now in
    let key = c.in-Some.key in
    let client = c.in-Some.client in
    let free : c.in-Some.free ≡ false = assumption in
    let limit : q.config.at_limit ≡ Allow = ap (λ v. v.config.at_limit) (sym c.self.view_is) ∙ sym c.in-Allow.ensures.value in
    any_answers ops (state_of q) (first_at key q.roster.entries) client (has_first ops q.last_moment q.roster.entries key client c.in-Some.free c.in-Some.ensures)
    (g.A.GrantTest.allows c.args.test.now) (state_of c.grant_priority-in-Allow.new.self) c.grant_priority-in-Allow.result
    (none_is_free ops q.last_moment q.roster.entries key client c.in-Some.free c.in-Some.ensures free)
    (any_is ops q.last_moment q.roster.entries key client c.in-Some.free c.in-Some.ensures free) limit c.grant_priority-in-Allow.ensures

pub returns-in-Wait : goal.returns-in-Wait
returns-in-Wait g c =
    let ops = g.T.Tag.ops in
    let q = c.args.self.now in
    let key = c.in-Some.key in
    let client = c.in-Some.client in
    let free : c.in-Some.free ≡ false = assumption in
    let limit : q.config.at_limit ≡ Allow → ⊥ = λ allow. is_not_allowing c.at_limit.result c.in-Wait.is (c.at_limit.ensures.value ∙ ap (λ v. v.config.at_limit) c.self.view_is ∙ allow) in (
      later_answers ops (state_of q) (first_at key q.roster.entries) client (has_first ops q.last_moment q.roster.entries key client c.in-Some.free c.in-Some.ensures)
          (none_is_free ops q.last_moment q.roster.entries key client c.in-Some.free c.in-Some.ensures free)
          (any_is ops q.last_moment q.roster.entries key client c.in-Some.free c.in-Some.ensures free) limit (assumption),
      refl,
    )
