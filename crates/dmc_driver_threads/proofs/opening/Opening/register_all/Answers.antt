use Rattle.dmc_driver_threads.proofs.Registering.{enrolled_at_first}
use Rattle.dmc_driver_threads.proofs.opening.Opening.register_all.Goals as goal

pub register_each-requires-clause-enrolled : goal.register_each-requires-clause-enrolled
register_each-requires-clause-enrolled g c =
    enrolled_at_first c.args.book.now.workers c.args.passes.now c.index-passes-0.result c.requires.first c.requires.some
