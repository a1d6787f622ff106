use Rattle.std.proofs.Common.{rules, ◌<◌, length, Err}
use Rattle.dmc_tag.proofs.ForCallers.{tag_order}
use Rattle.dmc_pull.specs.Allowed.{PullsIf}
use Rattle.dmc_pull.specs.Queue.{state_of}
use Rattle.dmc_pull.specs.declared.granting.PullFault.TheVariants as faults
use Rattle.dmc_book.specs.BookState.{pass_state}
use Rattle.dmc_book.specs.Moves.{takes}
use Rattle.dmc_book.proofs.AskLemmas.{pull_answers, pull_declined, pull_out_of_range}
use Rattle.dmc_book.proofs.asking.ask_to_pull.Goals as goal

pub returns-in-Ok : goal.returns-in-Ok
returns-in-Ok g c =
    let allows = takes c.args.accounts.now.desks (pass_state c.args.pass.now).clients (pass_state c.args.pass.now).units in
    pull_answers g.T.Tag.ops (length (pass_state c.args.pass.now).units < length c.args.accounts.now.desks) allows (state_of c.args.queue.now) (state_of c.pull_allowed.new.self) c.args.at c.in-Ok.pulled c.in-Ok.ensures

pub returns-in-Err-Refused : goal.returns-in-Err-Refused
returns-in-Err-Refused g c =
    let allows = takes c.args.accounts.now.desks (pass_state c.args.pass.now).clients (pass_state c.args.pass.now).units in
    let order = tag_order g.T.Ord.cmp g.T.Tag.ops.compare g.met.T.Ord.total g.met.T.Tag.compares in
    let h : PullsIf allows g.T.Tag.ops (state_of c.args.queue.now) (state_of c.pull_allowed.new.self) c.args.at (Err (faults.Refused c.in-Err-Refused.refusal)) = search rules in
    pull_out_of_range g.T.Tag.ops g.T.Tag.fraction g.T.Tag.is_value g.met.T.Tag.exact order (length (pass_state c.args.pass.now).units < length c.args.accounts.now.desks) allows (state_of c.args.queue.now) (state_of c.pull_allowed.new.self) c.args.at c.in-Err-Refused.refusal h

pub returns-in-Err-Declined : goal.returns-in-Err-Declined
returns-in-Err-Declined g c =
    let allows = takes c.args.accounts.now.desks (pass_state c.args.pass.now).clients (pass_state c.args.pass.now).units in
    let h : PullsIf allows g.T.Tag.ops (state_of c.args.queue.now) (state_of c.pull_allowed.new.self) c.args.at (Err faults.Declined) = search rules in
    pull_declined g.T.Tag.ops (length (pass_state c.args.pass.now).units < length c.args.accounts.now.desks) allows (state_of c.args.queue.now) (state_of c.pull_allowed.new.self) c.args.at c.fault_of_declined.result h c.fault_of_declined.ensures
