use Rattle.std.proofs.Common.{arith}
use Rattle.dmc_driver_threads.proofs.Numbering.{numbered_further}
use Rattle.dmc_driver_threads.proofs.opening.Opening.enroll.Goals as goal

pub add_workers-requires-clause-numbered : goal.add_workers-requires-clause-numbered
add_workers-requires-clause-numbered c = rw c.in_ok-ids.ensures.items (record { apart = tt; below = tt })

pub add_workers-requires-2-clause-numbered : goal.add_workers-requires-2-clause-numbered
add_workers-requires-2-clause-numbered c = numbered_further _ _ c.add_workers.new.ids.items (omega arith) c.in_ok-add_workers.ensures.numbered
