use Rattle.std.proofs.Common.{arith}
use Rattle.std.proofs.lemmas.Grind.{common_steps}
use Rattle.dmc_history.proofs.BlockLemmas.{length-events_of}
use Rattle.dmc_history.proofs.History.is_empty.Goals as goal

pub returns : goal.returns
returns g c =
    let counted = length-events_of _ _ c.self.invariant.0 in
    rw (← c.self.view_is) (grind (arith, common_steps, counted))
