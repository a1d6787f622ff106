-- The words of the plans are computed.
use Rattle.std.proofs.Common.{refl}
use Rattle.rand_pcg.specs.Lcg.{state_after}
use Rattle.dmc_sim.proofs.examples.in_time.Goals as goal

pub returns : goal.returns
unfolding state_after
returns c = refl
