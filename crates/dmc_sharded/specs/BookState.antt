-- What contracts see of a client's book of arrivals, of its lock, and of a server of shards.
use Rattle.std.specs.Prelude.{◌≡◌, ℕ, ◌+◌, ◌*◌, ◌<◌, ◌≤◌, List, length, slice_index_or}
use Rattle.dmc_types.specs.Limits.{max_completions, max_count, max_servers}
use Rattle.dmc_types.specs.Values.{Counts}
use Rattle.dmc_types.specs.declared.ids.ServerId.{ServerId}
use Rattle.dmc_tracker.specs.Numbers.{AreLimits}
use Rattle.dmc_tracker.specs.TrackerList.{plus}
use Rattle.dmc_shards.specs.ShardNumbers.{Numbers, new_numbers, numbers_at}
use Rattle.dmc_ledger.specs.Accounts.{Account, Holding, total_of}
use Rattle.dmc_ledger.specs.Bundles.{ClientSide, ServerSide, StampHoldings, server_side, stamp_holdings, new_client_side, new_server_side, books_per_pair}
use Rattle.dmc_ledger.specs.Moves.{books_after_opening, new_tills}
use Rattle.dmc_qlock.specs.LockState.{LockState}
use Rattle.dmc_sharded.specs.declared.desk.ShardDesk.{ShardDesk}

-- a client's side of a shard: the books of the stamps that it made for the shard's queue, and the tills of what it made and the
-- queue has not taken
pub record DeskState : Type 0 where
  pub side : ServerSide
  pub tills : StampHoldings

-- the client, the numbers of its shard tracker, and its desk for each shard
pub record BookState : Type 0 where
  pub client : ℕ
  pub tracker : Numbers
  pub desks : List DeskState

-- a client's lock: whose book it is; and a server: how many shards it has
pub record LockValue : Type 0 where
  pub client : ℕ

pub record ServerValue : Type 0 where
  pub shards : ℕ

-- a server has 1 to 64 shards, and the lock at each place is of the server of that number
pub record AreInOrder (locks : List LockState) : Type 0 where
  pub some : 0 < length locks
  pub limit : length locks ≤ max_servers
  pub each : (s : ℕ) → s < length locks → (slice_index_or locks s (record { server = 0 })).server ≡ s

-- each as plain data, whatever its set-up
abbrev pub desk_state : {S : Type 0} → ShardDesk S → DeskState
desk_state d = record { side = server_side d.side; tills = stamp_holdings d.tills }

-- ---- as they are opened, with the books from the n-th on

-- A till of each stamp book is open at the queue's desk, and one here.
abbrev pub new_desk : ℕ → ℕ → ℕ → DeskState
new_desk client shard n = record {
  side = record (new_server_side client shard n) { books = books_after_opening (new_server_side client shard n).books };
  tills = new_tills (new_server_side client shard n).books;
}

-- the desks of a shard, the client's and the queue's
abbrev pub desk_at : List DeskState → ℕ → DeskState
desk_at desks s = slice_index_or desks s (new_desk 0 0 0)

abbrev pub queue_at : List ClientSide → ℕ → ClientSide
queue_at queues s = slice_index_or queues s (new_client_side 0 0 0)

-- a book of which nothing came in
pub record IsNewBook (client shards most n : ℕ) (book : BookState) : Type 0 where
  pub its_client : book.client ≡ client
  pub tracker : book.tracker ≡ new_numbers most shards
  pub as_many : length book.desks ≡ shards
  pub each : (s : ℕ) → s < shards → desk_at book.desks s ≡ new_desk client s (n + books_per_pair * s)

-- the limits of a tracker, and of the numbers that the mint has left
pub record AreOpenLimits (shards most left : ℕ) : Type 0 where
  pub tracker : AreLimits shards most
  pub numbers : books_per_pair * shards ≤ left

-- the desks of the shards' queues
pub record AreNewQueues (client shards n : ℕ) (queues : List ClientSide) : Type 0 where
  pub as_many : length queues ≡ shards
  pub each : (s : ℕ) → s < shards → queue_at queues s ≡ new_client_side client s (n + books_per_pair * s)

-- ---- what holds of every book

-- The book totals what was sent and what the till still holds. Nothing is gathered, and two tills are open: that of the queue's
-- desk, and this one.
pub record IsBook (sent : ℕ) (till : Holding) (book : Account) : Type 0 where
  pub number : till.number ≡ book.number
  pub total : total_of book ≡ sent + till.amount
  pub few : till.amount ≤ max_count
  pub gathered : book.gathered ≡ 0
  pub open_tills : book.open_tills ≡ 2

-- the desk of a shard: the books of deltas and of rhos total what the tracker sent there, that of stamps the requests that the
-- queue took
pub record IsDesk (client : ℕ) (sent : Counts) (shard : ℕ) (desk : DeskState) : Type 0 where
  pub its_client : desk.side.client ≡ client
  pub its_server : desk.side.server ≡ shard
  pub stamps : (taken : ℕ) × IsBook taken desk.tills.stamps desk.side.books.stamps
  pub delta : IsBook sent.delta desk.tills.delta desk.side.books.delta
  pub rho : IsBook sent.rho desk.tills.rho desk.side.books.rho

-- what was sent to s, what was skipped and what is pending there is what came in, in both counts
abbrev pub IsBalancedAt : Numbers → ServerId → Type 0
IsBalancedAt tracker s = plus (plus (numbers_at tracker s).sent (numbers_at tracker s).skipped) (numbers_at tracker s).pending ≡ tracker.came

-- the sums of each shard hold; a desk for each shard, which is its own; and what came is within its limit
pub record IsConsistent (b : BookState) : Type 0 where
  pub balanced : (s : ServerId) → s.0 < length b.desks → IsBalancedAt b.tracker s
  pub desks : (s : ServerId) → s.0 < length b.desks → IsDesk b.client (numbers_at b.tracker s).sent s.0 (desk_at b.desks s.0)
  pub shards : length b.desks ≡ length b.tracker.shards
  pub rho : b.tracker.came.rho ≤ b.tracker.came.delta
  pub delta : b.tracker.came.delta ≤ b.tracker.most
  pub most : b.tracker.most ≤ max_completions
