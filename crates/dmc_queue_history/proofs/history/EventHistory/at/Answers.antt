use Rattle.std.proofs.Common.{◌≡◌, Some, None, rules}
use Rattle.std.specs.Prelude.{slice_get}
use Rattle.dmc_queue_history.specs.Kept.{kept_of}
use Rattle.dmc_queue_history.proofs.Adding.{slice_get-events_at}
use Rattle.dmc_queue_history.proofs.history.EventHistory.at.Goals as goal

pub returns-in_err-place : goal.returns-in_err-place
returns-in_err-place g c =
    let past : slice_get c.self.inside.places.events c.args.index ≡ None = search rules in
    rw (← c.self.view_is, slice_get-events_at g.T.Tag.ops (kept_of c.self.inside.lists) c.self.inside.places.events c.args.index c.self.invariant.found, past) (search rules)

pub returns : goal.returns
returns g c =
    let there : slice_get c.self.inside.places.events c.args.index ≡ Some c.in_ok-place.field-0.now = search rules in
    rw (← c.self.view_is, slice_get-events_at g.T.Tag.ops (kept_of c.self.inside.lists) c.self.inside.places.events c.args.index c.self.invariant.found, there) (search rules)
