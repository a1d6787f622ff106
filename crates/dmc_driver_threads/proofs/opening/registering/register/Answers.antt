use Rattle.dmc_book.specs.BookState.{pass_state}
use Rattle.dmc_driver_threads.proofs.Registering.{on_ok, set_as_before, still_enrolled}
use Rattle.dmc_driver_threads.proofs.opening.registering.register.Goals as goal

pub returns-in-Ok-clause-kept : goal.returns-in-Ok-clause-kept
returns-in-Ok-clause-kept g c =
    on_ok c.keep_refusal.result
    (set_as_before g.T.Tag.ops c.args.book.now c.run.new.self (pass_state c.args.pass.now) (pass_state c.run.new.pass) _ c.in-Ok.reply c.in-Ok.ensures.ran)

pub returns-in-Ok-clause-enrolled : goal.returns-in-Ok-clause-enrolled
returns-in-Ok-clause-enrolled g c =
    on_ok c.keep_refusal.result
    (still_enrolled g.T.Tag.ops c.args.book.now c.run.new.self (pass_state c.args.pass.now) (pass_state c.run.new.pass) _ c.in-Ok.reply c.in-Ok.ensures.ran
    c.requires.enrolled)
