use Rattle.std.proofs.Common.{refl}
use Rattle.dmc_head_index.specs.Heads.{tag_rank, limit_rank, ready_rank}
use Rattle.dmc_pull.specs.Queue.{state_of}
use Rattle.dmc_pull.proofs.Common.FirstRequests.{has_key_exactly}
use Rattle.dmc_tests_base.proofs.indexes.indexes.Goals as goal

pub returns-clause-by_reservation : goal.returns-clause-by_reservation
returns-clause-by_reservation g c =
    has_key_exactly g.T.Tag.ops (state_of c.args.queue.now) c.args.queue.now.heads c.reservation_index.ensures.heads tag_rank (λ r. r.client) (λ head. refl) _ c.reservation_index.ensures.ranks

pub returns-clause-by_limit : goal.returns-clause-by_limit
returns-clause-by_limit g c =
    has_key_exactly g.T.Tag.ops (state_of c.args.queue.now) c.args.queue.now.heads c.limit_index.ensures.heads limit_rank (λ r. r.client) (λ head. refl) _ c.limit_index.ensures.ranks

pub returns-clause-by_weight : goal.returns-clause-by_weight
returns-clause-by_weight g c =
    has_key_exactly g.T.Tag.ops (state_of c.args.queue.now) c.args.queue.now.heads c.weight_index.ensures.heads ready_rank (λ r. r.client) (λ head. refl) _ c.weight_index.ensures.ranks
