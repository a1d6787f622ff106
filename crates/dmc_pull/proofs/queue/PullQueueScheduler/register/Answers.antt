-- The tests that held are those of the step.
use Rattle.std.proofs.Common.{ap, arith}
use Rattle.dmc_types.specs.declared.command.Command.TheVariants.{Register}
use Rattle.dmc_types.specs.declared.refusal.QueueFault.TheVariants as faults
use Rattle.dmc_tag.specs.declared.reply.Reply.TheVariants.{Registered}
use Rattle.dmc_tag.proofs.ForCallers.{moments_are_values}
use Rattle.dmc_lemmas.proofs.Options.{err_is}
use Rattle.dmc_client.specs.Record.{client_of}
use Rattle.dmc_pull.specs.Queue.{state_of}
use Rattle.dmc_tag.proofs.Refusals.{refused_as}
use Rattle.dmc_pull.proofs.Common.Refused.{register_refused, registered_step}
use Rattle.dmc_pull.proofs.queue.PullQueueScheduler.register.Goals as goal

pub admit-requires-clause-kept : goal.admit-requires-clause-kept
admit-requires-clause-kept g c =
    let nothing = moments_are_values g.T.Tag.ops g.T.Tag.fraction g.T.Tag.is_value g.met.T.Tag.exact 0 (omega arith) in
    record { is_record = c.new-rec.ensures.kept; spacings = rw c.new-rec.ensures.value c.in_ok-spacings.ensures.registers.exact; values = rw c.new-rec.ensures.value (nothing, tt) }

pub new-rec-requires : goal.new-rec-requires
new-rec-requires g c = c.in_ok-spacings.ensures.registers.are

pub admit-requires-clause-new : goal.admit-requires-clause-new
admit-requires-clause-new g c = c.in_ok-spacings.ensures.registers.new

pub admit-requires-clause-room : goal.admit-requires-clause-room
admit-requires-clause-room g c = c.in_ok-spacings.ensures.registers.room

pub admit-requires-clause-nothing : goal.admit-requires-clause-nothing
admit-requires-clause-nothing g c = ap (λ rec. rec.requests) c.new-rec.ensures.value

pub admit-requires-clause-zero : goal.admit-requires-clause-zero
admit-requires-clause-zero g c = ap (λ rec. rec.previous.p) c.new-rec.ensures.value

pub admit-requires-clause-later : goal.admit-requires-clause-later
admit-requires-clause-later g c = c.effective-at.ensures.later

pub returns-in_err-spacings : goal.returns-in_err-spacings
returns-in_err-spacings g c =
    let s = state_of c.args.self.now in
    let refusal = c.in_err-spacings.field-0.0 in
    let result = c.from_residual.result in
    refused_as g.T.Tag.ops s (Register c.args.client c.args.info c.args.at) (λ done. Registered) result refusal (err_is result (faults.Refused refusal) c.from_residual.ensures.1)
    (register_refused g.T.Tag.ops s c.args.client c.args.info c.args.at refusal c.in_err-spacings.ensures.outcome)

pub returns : goal.returns
returns g c =
    registered_step g.T.Tag.ops (state_of c.args.self.now) c.args.client (state_of c.admit.new.self) c.args.info c.args.at c.effective-at.result c.admit.result
    c.effective-at.ensures.value c.in_ok-spacings.ensures.outcome
    (client_of c.args.client c.new-rec.result) (ap (client_of c.args.client) c.new-rec.ensures.value) c.admit.ensures.ok c.admit.ensures.err c.admit.ensures.memory
