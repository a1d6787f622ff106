-- The events so far are added.
use Rattle.std.proofs.Common.{◌≡◌, ◌++◌, take}
use Rattle.dmc_check.specs.Replaying.{ReplayerState}
use Rattle.dmc_check.proofs.replayer.Replayer.add_all.Given as goal

abbrev pub invariant-loop-index : goal.invariant-loop-index
invariant-loop-index g l = ◌≡◌ {A = ReplayerState g.row.T.Denot} l.self (record l.fn.self { events = l.fn.self.events ++ take l.index (g.L.EventList.events l.events) })
