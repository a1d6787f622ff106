use Rattle.std.proofs.Common.{refl}
use Rattle.dmc_tracker.proofs.ForCallers.{IsTracked-stamp}
use Rattle.dmc_tracker.proofs.laws.stamp_keeps_tracked.Goals as goal

pub returns : goal.returns
returns c = λ counting events s cost. IsTracked-stamp counting events s cost _ refl
