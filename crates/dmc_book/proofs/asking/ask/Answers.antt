use Rattle.std.proofs.Common.{◌<◌, length, subst, sym}
use Rattle.dmc_types.specs.declared.command.Command.TheVariants.{Pull}
use Rattle.dmc_pull.specs.Queue.{state_of}
use Rattle.dmc_book.specs.BookState.{pass_state}
use Rattle.dmc_book.specs.Calls.{Asks}
use Rattle.dmc_book.specs.Moves.{takes}
use Rattle.dmc_book.proofs.AskLemmas.{no_pull}
use Rattle.dmc_book.proofs.asking.ask.Goals as goal

pub returns-in-Pull : goal.returns-in-Pull
returns-in-Pull g c =
    let allows = takes c.args.accounts.now.desks (pass_state c.args.pass.now).clients (pass_state c.args.pass.now).units in
    subst (λ command. Asks g.T.Tag.ops (length (pass_state c.args.pass.now).units < length c.args.accounts.now.desks) allows (state_of c.args.queue.now) (state_of c.ask_to_pull.new.queue) command c.reply_of.result) (sym c.in-Pull.is)
    (subst (Asks g.T.Tag.ops (length (pass_state c.args.pass.now).units < length c.args.accounts.now.desks) allows (state_of c.args.queue.now) (state_of c.ask_to_pull.new.queue) (Pull c.in-Pull.at)) (sym c.reply_of.ensures) c.ask_to_pull.ensures)

pub returns-in-Ok : goal.returns-in-Ok
returns-in-Ok g c =
    let allows = takes c.args.accounts.now.desks (pass_state c.args.pass.now).clients (pass_state c.args.pass.now).units in
    no_pull g.T.Tag.ops (length (pass_state c.args.pass.now).units < length c.args.accounts.now.desks) allows (state_of c.args.queue.now) (state_of c.apply.new.self) c.args.command.now c.in-Ok.reply c.in_default.not-Pull c.in-Ok.ensures
