use Rattle.std.proofs.Common.{◌<◌, ℕ, Option, length, refl, arith}
use Rattle.std.specs.Global.{Vec}
use Rattle.std.proofs.lemmas.Option.{slice_get_read, slice_get_within}
use Rattle.dmc_settle.specs.declared.report.StopCause.{StopCause}
use Rattle.dmc_settle.specs.declared.report.ServerReport.{ServerReport}
use Rattle.dmc_driver.specs.Stops.{AreServerStops}
use Rattle.dmc_driver.proofs.WalkLemmas.{each_more}
use Rattle.dmc_driver.proofs.stops.are_stops_of_servers.Goals as goal

pub loop-k-preserved : goal.loop-k-preserved
loop-k-preserved g c =
    let rows = c.args.rows.now in
    let ends = c.args.ends.now in
    let k = c.loop-k.k in
    let row = c.index-rows-k.result in
    let own = c.index-ends-k.result in
    let in_rows : k < length rows = omega arith in
    let in_ends : k < length ends = omega arith in
    let here : AreServerStops c.args.scene.now k own.items row = rw c.deref.ensures.value at (c.are_server_stops.ensures.0 c.if-not-are_server_stops.false) in
    each_more (λ (j : ℕ) (s : ServerReport g.row.T.Denot) (v : Vec (Option StopCause)). AreServerStops c.args.scene.now j v.items s) rows ends k row own
    (slice_get_read rows (length rows) k row refl in_rows c.index-rows-k.is) (slice_get_read ends (length ends) k own refl in_ends c.index-ends-k.is) here c.loop-k.invariant

pub returns : goal.returns
returns g c = (
  (λ e. record {
    ends_of_each = c.if-ends-rows.false;
    each = λ k s own at_s at_own. c.loop-k.invariant k s own (omega (arith, slice_get_within c.args.rows.now k s at_s)) at_s at_own;
  }),
  (λ all. refl),
)
