-- What a shard tracker keeps, in the place of a list. No public clause cites this module.
use Rattle.std.specs.Prelude.{ℕ, ◌<◌, ◌≤◌, List, length, map, All as Each}
use Rattle.dmc_types.specs.Limits.{max_completions, max_servers}
use Rattle.dmc_types.specs.Values.{Counts}
use Rattle.dmc_tracker.specs.Parts.{minus, IsPart}
use Rattle.dmc_tracker.specs.TrackerList.{plus}
use Rattle.dmc_shards.specs.declared.shard.ShardCounts.{ShardCounts}
use Rattle.dmc_shards.specs.declared.status.ShardStatus.{ShardStatus}
use Rattle.dmc_shards.specs.ShardNumbers.{Numbers}

-- the rest of what came
abbrev pub rest_of : Counts → ShardCounts → Counts
rest_of came shard = minus (minus came shard.sent) shard.skipped

-- What contracts see of a shard: what was sent to it and what was skipped there is kept, and what is pending is the rest.
abbrev pub status_now : Counts → ShardCounts → ShardStatus
status_now came shard = record { sent = shard.sent; skipped = shard.skipped; pending = rest_of came shard }

-- what contracts see of a tracker
abbrev pub view_of : ℕ → Counts → List ShardCounts → Numbers
view_of most came shards = record { most = most; came = came; shards = map (status_now came) shards }

pub record AreKept (most : ℕ) (came : Counts) (shards : List ShardCounts) : Type 0 where
  pub some_most : 0 < most
  pub max_limit : most ≤ max_completions
  pub some_shards : 0 < length shards
  pub shards_limit : length shards ≤ max_servers
  pub came_rho : came.rho ≤ came.delta
  pub came_most : came.delta ≤ most
  pub each : Each (λ shard. IsPart (plus shard.sent shard.skipped) came) shards
