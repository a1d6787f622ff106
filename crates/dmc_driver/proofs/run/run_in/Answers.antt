use Rattle.dmc_settle.specs.Left.{left_of, stops_of}
use Rattle.dmc_driver.specs.Stops.{ends_of}
use Rattle.dmc_driver.proofs.SettledLemmas.{reports}
use Rattle.dmc_driver.proofs.run.run_in.Goals as goal

pub returns-clause-report : goal.returns-clause-report
returns-clause-report g c =
    let remains = c.in_ok-remains.remains in
    reports g.T.Tag.ops c.args.scene.now c.args.limits (left_of remains.books.items remains.trackers.items remains.passes (stops_of remains.report))
    (ends_of remains.ends.items) c.settle_run.result c.settle_run.ensures.settled
