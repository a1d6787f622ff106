-- No event replays, and the queue is in the opening state.
use Rattle.std.proofs.Common.{refl}
use Rattle.dmc_check.proofs.replay.Replay.new.Goals as goal

pub returns : goal.returns
returns g c = record { count = refl; so_far = (tt, c.new.ensures) }
