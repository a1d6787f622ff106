use Rattle.std.proofs.Common.{◌≡◌, ◌≤◌, length, take, vec_len, vec_capacity}
use Rattle.dmc_tag.specs.Steps.{Runs}
use Rattle.dmc_tag.proofs.run.run_commands.Given as goal

-- the commands up to now were carried out, with their replies, and there is capacity for the replies to all
abbrev pub invariant-loop-done : goal.invariant-loop-done
invariant-loop-done g l =
    let state = g.S.Scheduler.state in
    Runs g.T.Tag.ops (state l.fn.scheduler) (state l.scheduler) (take l.done l.commands) l.replies.items × (vec_len l.replies ≡ l.done) × (length l.commands ≤ vec_capacity l.replies)
