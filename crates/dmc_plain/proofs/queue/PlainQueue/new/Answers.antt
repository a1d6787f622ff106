use Rattle.dmc_types.specs.Limits.{max_clients, max_requests}
use Rattle.dmc_plain.proofs.Kept.{kept_none}
use Rattle.dmc_plain.proofs.queue.PlainQueue.new.Goals as goal

pub invariant_of-result : goal.invariant_of-result
invariant_of-result g c = rw c.new.ensures.items (kept_none max_clients max_requests)
