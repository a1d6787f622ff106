-- The step of an add, and what is returned if it is refused or an allocation failed.
use Rattle.std.proofs.Common.{sym, ap, ◌∙◌, subst, refl}
use Rattle.dmc_types.specs.declared.command.Command.TheVariants.{Add}
use Rattle.dmc_types.specs.declared.refusal.QueueFault.TheVariants as faults
use Rattle.dmc_tag.specs.Answers.{call_reply}
use Rattle.dmc_tag.specs.Steps.{Steps}
use Rattle.dmc_tag.specs.Rules.{queued}
use Rattle.dmc_tag.specs.State.{State}
use Rattle.dmc_tag.specs.declared.reply.Reply.{Reply}
use Rattle.dmc_tag.specs.declared.reply.Reply.TheVariants.{Tagged}
use Rattle.dmc_lemmas.proofs.Options.{err_is}
use Rattle.dmc_pull.specs.Queue.{state_of}
use Rattle.dmc_tag.proofs.Refusals.{refused_as, no_memory}
use Rattle.dmc_pull.proofs.Common.Refused.{add_refused, add_done}
use Rattle.dmc_pull.proofs.Pull.Allowed.{step_of_add}
use Rattle.dmc_pull.proofs.queue.PullQueueScheduler.add_request_with_hint.Goals as goal

pub returns : goal.returns
returns g c =
    let ops = g.T.Tag.ops in
    let old = state_of c.args.self.now in
    let addition = c.in_ok-addition.addition in
    let at = c.effective-at.result in
    let after : State g.row.T.Denot → State g.row.T.Denot = λ s. queued ops s addition.shift c.args.client (record { token = c.args.token; cost = c.args.params.cost; tags = addition.tags; slack = addition.slack }) at in
    let step = step_of_add ops old c.args.client c.args.token c.args.params c.args.at at (after old, Tagged addition.tags) c.effective-at.ensures.value (c.in_ok-addition.ensures.outcome.added c.args.token) in
    let answer : State g.row.T.Denot → State g.row.T.Denot × Reply g.row.T.Denot = λ s. (s, Tagged addition.tags) in
    let asked = ap (λ cost. queued ops (state_of c.can_add.new.self) addition.shift c.args.client (record { token = c.args.token; cost = cost; tags = addition.tags; slack = addition.slack }) at) c.cost.ensures in
    ap answer (c.in_ok-queue.ensures.ok ∙ asked ∙ ap (λ q. after (state_of q)) c.in_ok-addition.ensures.same) ∙ sym step

pub returns-in_err-addition : goal.returns-in_err-addition
returns-in_err-addition g c =
    let ops = g.T.Tag.ops in
    let old = state_of c.args.self.now in
    let command = Add c.args.client c.args.token c.args.params c.args.at in
    let refusal = c.in_err-addition.field-0.0 in
    let result = c.from_residual.result in
    let refused =
    add_refused ops old c.args.client c.args.token c.args.params c.args.at c.effective-at.result c.effective-at.ensures.value refusal c.in_err-addition.ensures.outcome in
    subst (λ q. Steps ops old (state_of q) command (call_reply (λ tags. Tagged tags) result)) (sym c.can_add.ensures.same)
    (refused_as ops old command (λ tags. Tagged tags) result refusal (err_is result (faults.Refused refusal) c.from_residual.ensures.1) refused)

pub returns-in_err-queue : goal.returns-in_err-queue
returns-in_err-queue g c =
    let ops = g.T.Tag.ops in
    let old = state_of c.args.self.now in
    let command = Add c.args.client c.args.token c.args.params c.args.at in
    let done =
    add_done ops old c.args.client c.args.token c.args.params c.args.at c.effective-at.result c.effective-at.ensures.value _
    (c.in_ok-addition.ensures.outcome.added c.args.token) in
    let fault = c.in_err-queue.field-0.0 in
    let result = c.from_residual-in_err-queue.result in
    let kept = ap state_of (c.in_err-queue.ensures.err ∙ c.can_add.ensures.same) in
    no_memory ops old command (λ tags. Tagged tags) result (state_of c.queue.new.self) fault refl (err_is result fault c.from_residual-in_err-queue.ensures.1) c.in_err-queue.ensures.memory done kept
