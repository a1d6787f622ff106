-- What contracts see of the queue inside. No public clause cites this module.
use Rattle.dmc_pull.specs.Queue.{state_of}
use Rattle.dmc_any_queue.specs.AnyState.{AnyState, ticks, ratios}
use Rattle.dmc_any_queue.specs.declared.any_queue.Queue.{Queue}
use Rattle.dmc_any_queue.specs.declared.any_queue.Queue.TheVariants.{Tick, Ratio}

abbrev pub any_state_of : Queue → AnyState
any_state_of (Tick queue) = ticks (state_of queue.0)
any_state_of (Ratio queue) = ratios (state_of queue.0)
