use Rattle.std.proofs.Common.{◌≡◌, ℕ, ◌+◌, ◌*◌, ◌<◌, ◌≤◌, length, [], ◌∷◌, ◌++◌, ap, ◌∙◌, arith, rules}
use Rattle.std.specs.Prelude.{vec_capacity}
use Rattle.dmc_ledger.specs.Accounts.{Stock}
use Rattle.dmc_ledger.specs.Bundles.{ClientSide, books_per_pair, client_side, new_client_side}
use Rattle.dmc_ledger.specs.declared.desk.ClientDesk.{ClientDesk}
use Rattle.dmc_shared.proofs.PlaceLemmas.{push_more}
use Rattle.dmc_sharded.specs.BookState.{DeskState, desk_state, new_desk}
use Rattle.dmc_sharded.specs.declared.desk.ShardDesk.{ShardDesk}
use Rattle.dmc_sharded.proofs.desk.open_desks.Goals as goal

pub loop-shard-preserved : goal.loop-shard-preserved
loop-shard-preserved g c =
    let i = c.loop-shard.shard in
    let queue : ClientDesk g.row.S.Denot → ClientSide = client_side in
    let desk : ShardDesk g.row.S.Denot → DeskState = desk_state in
    let first = c.args.mint.now.opened in
    let opened : c.loop-shard.mint.opened ≡ first + books_per_pair * i = c.loop-shard.invariant.opened in
    let queue_room : c.args.shards ≤ vec_capacity c.push.new.self = search rules in
    let desk_room : c.args.shards ≤ vec_capacity c.push-in-loop-shard.new.self = search rules in
    let queues : c.push.new.self.items ≡ c.loop-shard.queues.items ++ c.open_desk-queue.result.0 ∷ [] = search rules in
    let desks : c.push-in-loop-shard.new.self.items ≡ c.loop-shard.desks.items ++ c.open_desk-queue.result.1 ∷ [] = search rules in
    let queue_count : length c.push.new.self.items ≡ i + 1 = search rules in
    let desk_count : length c.push-in-loop-shard.new.self.items ≡ i + 1 = search rules in
    record {
      queue_room = queue_room;
      desk_room = desk_room;
      queues = queue_count;
      desks = desk_count;
      opened = omega (arith, ap (λ (m : Stock). m.opened) c.open_desk-queue.ensures.mint, opened);
      left = omega (arith, ap (λ (m : Stock). m.left) c.open_desk-queue.ensures.mint, c.loop-shard.invariant.left);
      each_queue = rw queues (push_more queue (new_client_side 0 0 0) (λ (k : ℕ) (d : ClientSide). d ≡ new_client_side c.args.client.0 k (first + books_per_pair * k))
          c.loop-shard.queues.items i c.open_desk-queue.result.0 c.loop-shard.invariant.queues c.loop-shard.invariant.each_queue
          (c.open_desk-queue.ensures.queue ∙ ap (new_client_side c.args.client.0 i) opened));
      each_desk = rw desks (push_more desk (new_desk 0 0 0) (λ (k : ℕ) (d : DeskState). d ≡ new_desk c.args.client.0 k (first + books_per_pair * k))
          c.loop-shard.desks.items i c.open_desk-queue.result.1 c.loop-shard.invariant.desks c.loop-shard.invariant.each_desk
          (c.open_desk-queue.ensures.desk ∙ ap (new_desk c.args.client.0 i) opened));
    }
