-- What contracts see of a shard tracker: the numbers of a list of calls, and no list.
use Rattle.std.specs.Prelude.{◌≡◌, ℕ, ◌+◌, ◌<◌, ◌⊎◌, List, length, map, replicate, slice_set, slice_index_or}
use Rattle.dmc_types.specs.Limits.{max_count}
use Rattle.dmc_types.specs.Values.{Params, Counts, no_counts, counts_of, params_with}
use Rattle.dmc_types.specs.declared.ids.ServerId.{ServerId}
use Rattle.dmc_tracker.specs.Parts.{minus}
use Rattle.dmc_tracker.specs.TrackerList.{plus}
use Rattle.dmc_shards.specs.declared.call.ShardCall.{ShardCall}
use Rattle.dmc_shards.specs.declared.status.ShardStatus.{ShardStatus}
use Rattle.dmc_shards.specs.CallList.{came, sent, skipped, pending, IsAccepted}

-- the most that can come, what came in, and of each shard what was sent, what was skipped and what is pending there
pub record Numbers : Type 0 where
  pub most : ℕ
  pub came : Counts
  pub shards : List ShardStatus

abbrev pub no_numbers : ShardStatus
no_numbers = record { sent = no_counts; skipped = no_counts; pending = no_counts }

-- no call yet
abbrev pub new_numbers : ℕ → ℕ → Numbers
new_numbers most shards = record { most = most; came = no_counts; shards = replicate shards no_numbers }

-- the numbers of a shard
abbrev pub numbers_at : Numbers → ServerId → ShardStatus
numbers_at numbers s = slice_index_or numbers.shards s.0 no_numbers

-- what the stamp of a request counts that comes with these params and goes to s, and what it carries
abbrev pub next_counts : Numbers → ServerId → Params → Counts
next_counts numbers s params = plus (numbers_at numbers s).pending (counts_of params)

abbrev pub next_params : Numbers → ServerId → Params → Params
next_params numbers s params = params_with (next_counts numbers s params) params.cost

-- what came would pass `most`, or the stamp's delta is too much for one
pub record IsFullAt (numbers : Numbers) (s : ServerId) (params : Params) : Type 0 where
  pub within : s.0 < length numbers.shards
  pub past : (numbers.most < numbers.came.delta + params.delta) ⊎ (max_count < (next_counts numbers s params).delta)

-- more is given back than was sent
pub record IsNotSentAt (numbers : Numbers) (s : ServerId) (params : Params) : Type 0 where
  pub within : s.0 < length numbers.shards
  pub past : ((numbers_at numbers s).sent.delta < params.delta) ⊎ ((numbers_at numbers s).sent.rho < params.rho)

-- what came becomes pending
abbrev pub grown : Params → ShardStatus → ShardStatus
grown params shard = record shard { pending = plus shard.pending (counts_of params) }

-- a request that comes becomes pending at each shard, and what is then pending at s is sent there
abbrev pub after_arrival : ServerId → Params → Numbers → Numbers
after_arrival s params numbers = record numbers {
  came = plus numbers.came (counts_of params);
  shards = slice_set (map (grown params) numbers.shards) s.0 (record {
    sent = plus (numbers_at numbers s).sent (next_counts numbers s params);
    skipped = (numbers_at numbers s).skipped;
    pending = no_counts;
  });
}

-- what is given back is pending again at s
abbrev pub after_give_back : ServerId → Params → Numbers → Numbers
after_give_back s params numbers = record numbers {
  shards = slice_set numbers.shards s.0 (record {
    sent = minus (numbers_at numbers s).sent (counts_of params);
    skipped = (numbers_at numbers s).skipped;
    pending = plus (numbers_at numbers s).pending (counts_of params);
  });
}

-- a skip of s skips what is pending there, and sends nothing
abbrev pub after_skip : ServerId → Numbers → Numbers
after_skip s numbers = record numbers {
  shards = slice_set numbers.shards s.0 (record {
    sent = (numbers_at numbers s).sent;
    skipped = plus (numbers_at numbers s).skipped (numbers_at numbers s).pending;
    pending = no_counts;
  });
}

-- the numbers of s in a list
abbrev pub numbers_of : ServerId → List ShardCall → ShardStatus
numbers_of s calls = record { sent = sent s calls; skipped = skipped s calls; pending = pending s calls }

-- the numbers are those of the list, whose calls were accepted
pub record RepresentsCalls (numbers : Numbers) (calls : List ShardCall) : Type 0 where
  pub came_is : numbers.came ≡ came calls
  pub accepted : IsAccepted calls
  pub each : (s : ServerId) → s.0 < length numbers.shards → numbers_at numbers s ≡ numbers_of s calls

-- what no call changes: `most`, and how many shards there are
pub record Keeps (old new : Numbers) : Type 0 where
  pub most : new.most ≡ old.most
  pub shards : length new.shards ≡ length old.shards
