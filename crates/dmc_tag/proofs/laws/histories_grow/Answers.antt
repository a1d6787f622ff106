use Rattle.dmc_tag.proofs.ForCallers.{after_one_more, replays_one_more, replayed_one_more}
use Rattle.dmc_tag.proofs.laws.histories_grow.Goals as goal

pub returns-clause-state : goal.returns-clause-state
returns-clause-state g c = after_one_more g.T.Tag.ops

pub returns-clause-replay : goal.returns-clause-replay
returns-clause-replay g c = replays_one_more g.T.Tag.ops

pub returns-clause-replayed : goal.returns-clause-replayed
returns-clause-replayed g c = replayed_one_more g.T.Tag.ops
