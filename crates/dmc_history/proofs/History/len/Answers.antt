use Rattle.std.proofs.Common.{sym}
use Rattle.dmc_history.proofs.BlockLemmas.{length-events_of}
use Rattle.dmc_history.proofs.History.len.Goals as goal

pub returns-clause-value : goal.returns-clause-value
returns-clause-value g c = rw (← c.self.view_is) (sym (length-events_of _ _ c.self.invariant.0))
