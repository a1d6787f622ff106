-- Small lists of calls on which the bounds are computed, with a history of dmc_history_laws as that of shard 0's queue.
use Rattle.std.specs.Prelude.{ℕ, List, [], ◌∷◌}
use Rattle.dmc_types.specs.Values.{Params}
use Rattle.dmc_types.specs.declared.ids.ServerId.{ServerId}
use Rattle.dmc_shards.specs.declared.call.ShardCall.{ShardCall}
use Rattle.dmc_shards.specs.declared.call.ShardCall.TheVariants.{Arrive, GiveBack, Skip}

-- In the history of the limit a_1 came with delta 0, a_2 and a_3 with delta 1, and limit 20 grants a_2 at 50. In that of the
-- reservation the rhos are the deltas, a_2 is granted by weight at 0, and reservation 10 grants a_3 at 100.

abbrev pub shard : ℕ → ServerId
shard n = record { 0 = n }

-- a stamp of a request of cost 1, with rho 0
abbrev pub counting : ℕ → Params
counting delta = record { delta = delta; rho = 0; cost = 1 }

-- a request to a shard, which came with this delta
abbrev pub to_shard : ℕ → ℕ → ShardCall
to_shard n delta = Arrive (shard n) (counting delta)

-- a request to a shard, whose stamp has this delta and this rho
abbrev pub reserved_to : ℕ → ℕ → ShardCall
reserved_to n count = Arrive (shard n) (record { delta = count; rho = count; cost = 1 })

-- delta 1 and rho 1 come with a request to shard 1, and with a_3 to shard 0
abbrev pub other_reserved : List ShardCall
other_reserved = reserved_to 0 0 ∷ reserved_to 1 1 ∷ reserved_to 0 0 ∷ reserved_to 0 1 ∷ []

-- delta 1 comes with a request to shard 1; a_2 and a_3 go to shard 0
abbrev pub other_shard : List ShardCall
other_shard = to_shard 0 0 ∷ to_shard 1 1 ∷ to_shard 0 0 ∷ to_shard 0 1 ∷ []

-- shard 0 refuses a request between a_1 and a_2, whose counts are given back; and the same if they are not
abbrev pub refused_one : List ShardCall
refused_one = to_shard 0 0 ∷ to_shard 0 1 ∷ GiveBack (shard 0) (counting 1) ∷ to_shard 0 0 ∷ to_shard 0 1 ∷ []

abbrev pub kept_one : List ShardCall
kept_one = to_shard 0 0 ∷ to_shard 0 1 ∷ to_shard 0 1 ∷ to_shard 0 1 ∷ []

-- the numbers of the calls of a_1, a_2 and a_3
abbrev pub with_other : List ℕ
with_other = 0 ∷ 2 ∷ 3 ∷ []

abbrev pub with_refused : List ℕ
with_refused = 0 ∷ 3 ∷ 4 ∷ []

abbrev pub with_kept : List ℕ
with_kept = 0 ∷ 2 ∷ 3 ∷ []

-- delta 1 comes with a request to shard 1, and is skipped at shard 0 before a_2 is stamped
abbrev pub skipped_one : List ShardCall
skipped_one = to_shard 0 0 ∷ to_shard 1 1 ∷ Skip (shard 0) ∷ to_shard 0 1 ∷ to_shard 0 1 ∷ []

abbrev pub with_skipped : List ℕ
with_skipped = 0 ∷ 3 ∷ 4 ∷ []

-- a_3 arrives before a_2, which was stamped first
abbrev pub out_of_order : List ShardCall
out_of_order = to_shard 0 0 ∷ to_shard 0 1 ∷ to_shard 0 1 ∷ []

abbrev pub later_first : List ℕ
later_first = 0 ∷ 2 ∷ 1 ∷ []
