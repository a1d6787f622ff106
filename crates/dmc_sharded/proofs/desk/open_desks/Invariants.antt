use Rattle.std.proofs.Common.{◌≡◌, ℕ, ◌+◌, ◌-◌, ◌*◌, ◌<◌, ◌≤◌, length, map}
use Rattle.std.specs.Prelude.{vec_capacity}
use Rattle.dmc_ledger.specs.Bundles.{books_per_pair, client_side, new_client_side}
use Rattle.dmc_sharded.specs.BookState.{desk_at, desk_state, new_desk, queue_at}
use Rattle.dmc_sharded.proofs.desk.open_desks.Given as goal

abbrev pub invariant-loop-shard : goal.invariant-loop-shard
invariant-loop-shard g l = record {
  queue_room : l.fn.shards ≤ vec_capacity l.queues;
  desk_room : l.fn.shards ≤ vec_capacity l.desks;
  queues : length l.queues.items ≡ l.shard;
  desks : length l.desks.items ≡ l.shard;
  opened : l.mint.opened ≡ l.fn.mint.opened + books_per_pair * l.shard;
  left : l.mint.left ≡ l.fn.mint.left - books_per_pair * l.shard;
  each_queue : (k : ℕ) → k < l.shard → queue_at (map client_side l.queues.items) k ≡ new_client_side l.fn.client.0 k (l.fn.mint.opened + books_per_pair * k);
  each_desk : (k : ℕ) → k < l.shard → desk_at (map desk_state l.desks.items) k ≡ new_desk l.fn.client.0 k (l.fn.mint.opened + books_per_pair * k);
}
