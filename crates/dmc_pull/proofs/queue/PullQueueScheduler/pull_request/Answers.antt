-- The result of the call in it, under the test that every grant passes.
use Rattle.std.proofs.Common.{true, Err, subst}
use Rattle.dmc_types.specs.declared.command.Command.TheVariants.{Pull}
use Rattle.dmc_tag.specs.Step.{step}
use Rattle.dmc_pull.specs.Allowed.{PullsIf}
use Rattle.dmc_pull.specs.Queue.{state_of}
use Rattle.dmc_pull.proofs.Pull.Weighed.{never_declined}
use Rattle.dmc_pull.proofs.queue.PullQueueScheduler.pull_request.Goals as goal

pub unreachable-requires : goal.unreachable-requires
unreachable-requires g c =
    let ops = g.T.Tag.ops in
    let old = state_of c.args.self.now in
    let declined =
    subst (λ fault. PullsIf (λ client phase. true) ops old (state_of c.pull_allowed.new.self) c.args.at (Err fault)) c.in-Err-Declined.field-0-is c.in-Err-Declined.ensures in
    never_declined ((step ops old (Pull c.args.at)).1) declined.1

pub returns-in-Ok : goal.returns-in-Ok
returns-in-Ok g c = c.in-Ok.ensures.0

pub returns-in-Err-Refused : goal.returns-in-Err-Refused
returns-in-Err-Refused g c =
    subst (λ fault. PullsIf (λ client phase. true) g.T.Tag.ops (state_of c.args.self.now) (state_of c.pull_allowed.new.self) c.args.at (Err fault))
    c.in-Err-Refused.field-0-is c.in-Err-Refused.ensures
