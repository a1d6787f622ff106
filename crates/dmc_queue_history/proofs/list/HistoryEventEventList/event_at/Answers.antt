-- Answered here, so that a wrong body fails here.
use Rattle.std.proofs.Common.{rules}
use Rattle.dmc_queue_history.proofs.list.HistoryEventEventList.event_at.Goals as goal

pub returns : goal.returns
returns g c = search rules
