use Rattle.std.proofs.Common.{rules}
use Rattle.dmc_history.proofs.BlockLemmas.{length-events_of}
use Rattle.dmc_history.proofs.History.take.Goals as goal

pub returns-clause-within : goal.returns-clause-within
returns-clause-within g c = rw (c.replace.ensures.value, ← c.self.view_is, length-events_of _ _ c.self.invariant.0) c.self.invariant.1.within

pub returns-clause-empty : goal.returns-clause-empty
returns-clause-empty g c = search rules
