-- The test is called for the client that is named early; or the result is that of the state that advanced to the moment.
use Rattle.std.proofs.Common.{rules, ◌≡◌, true, refl, ◌∙◌, sym, ap}
use Rattle.dmc_types.specs.declared.config.PhaseType.TheVariants.{Reservation}
use Rattle.dmc_tag.specs.Answers.{pull_reply}
use Rattle.dmc_pull.specs.internal.Choice.{first_at}
use Rattle.dmc_pull.specs.Queue.{state_of}
use Rattle.dmc_pull.proofs.Common.Answered.{pulled_if, back_if}
use Rattle.dmc_pull.proofs.Pull.Weighed.{early_answers, early_declined}
use Rattle.dmc_pull.proofs.queue.PullQueue.pull_allowed.Goals as goal

pub returns-then-is_err : goal.returns-then-is_err
returns-then-is_err g c =
    back_if g.T.Tag.ops (state_of c.args.self.now) (state_of c.pull_by_weight-answer.new.self) c.args.at c.effective-at.result c.effective-at.ensures.value c.in_default.ensures (g.A.GrantTest.allows c.args.test.now)
    (state_of c.advance.new.self) c.advance.ensures.state c.pull_by_weight-answer.result c.pull_by_weight-answer.ensures (sym c.if-is_err.ensures.value) (state_of c.go_back.new.self) (c.go_back.ensures ∙ ap (λ m. record (state_of c.pull_by_weight-answer.new.self) { last_moment = m }) c.last_moment-before.ensures)

pub returns-else-is_err : goal.returns-else-is_err
returns-else-is_err g c =
    pulled_if g.T.Tag.ops (state_of c.args.self.now) (state_of c.pull_by_weight-answer.new.self) c.args.at c.effective-at.result c.effective-at.ensures.value c.in_default.ensures (g.A.GrantTest.allows c.args.test.now)
    (state_of c.advance.new.self) c.advance.ensures.state c.pull_by_weight-answer.result c.pull_by_weight-answer.ensures (sym c.if-is_err.ensures.value)

pub returns-in-Some : goal.returns-in-Some
returns-in-Some g c =
    let q = c.args.self.now in
    let may : true ≡ g.A.GrantTest.allows c.args.test.now c.in-Some.client Reservation = search rules in
    early_answers g.T.Tag.ops (state_of q) c.args.at c.effective-at.result c.effective-at.ensures.value (g.A.GrantTest.allows c.args.test.now) c.in-Some.client
    (state_of c.grant_early.new.self) (pull_reply c.grant_early.result) (first_at c.in-Some.key q.roster.entries)
    c.in-Some.ensures.0 c.in-Some.ensures.1 (sym may) c.grant_early.ensures

pub returns-then-not-allows : goal.returns-then-not-allows
returns-then-not-allows g c =
    let q = c.args.self.now in
    let declined =
    early_declined g.T.Tag.ops (state_of q) c.args.at c.effective-at.result c.effective-at.ensures.value (g.A.GrantTest.allows c.args.test.now) c.in-Some.client
    (first_at c.in-Some.key q.roster.entries) c.in-Some.ensures.0 c.in-Some.ensures.1 (sym c.if-not-allows.ensures) in
    (refl, declined)
