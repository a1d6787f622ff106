-- A shard tracker's list of accepted calls, oldest first, and what its counts are. Two counts always go together: delta, of all
-- that came in, and rho, of what of it is in the constraint phase.
use Rattle.std.specs.Prelude.{◌≡◌, ℕ, ◌≤◌, ◌==◌, Bool, false, if◌then◌else◌, List, [], ◌∷◌, ◌++◌, sum_by, count_by}
use Rattle.std.specs.List.{after_last}
use Rattle.dmc_types.specs.Values.{Params, Counts, no_counts, counts_of, params_with}
use Rattle.dmc_types.specs.declared.ids.ServerId.{ServerId}
use Rattle.dmc_tracker.specs.Parts.{minus}
use Rattle.dmc_tracker.specs.TrackerList.{plus}
use Rattle.dmc_shards.specs.declared.call.ShardCall.{ShardCall}
use Rattle.dmc_shards.specs.declared.call.ShardCall.TheVariants.{Arrive, GiveBack, Skip}

-- the sum of what each call of a list counts
abbrev pub total : (ShardCall → Counts) → List ShardCall → Counts
total f calls = record { delta = sum_by (λ c. (f c).delta) calls; rho = sum_by (λ c. (f c).rho) calls }

-- what a call brings to the server
abbrev pub brought_by : ShardCall → Counts
brought_by (Arrive shard params) = counts_of params
brought_by (GiveBack shard params) = no_counts
brought_by (Skip shard) = no_counts

-- what a call gives back of what was sent to s
abbrev pub given_back_by : ServerId → ShardCall → Counts
given_back_by s (Arrive shard params) = no_counts
given_back_by s (GiveBack shard params) = if shard.0 == s.0 then counts_of params else no_counts
given_back_by s (Skip shard) = no_counts

abbrev pub is_skip_of : ServerId → ShardCall → Bool
is_skip_of s (Arrive shard params) = false
is_skip_of s (GiveBack shard params) = false
is_skip_of s (Skip shard) = shard.0 == s.0

-- an arrival at s and a skip of s: what is pending there begins anew
abbrev pub is_mark_of : ServerId → ShardCall → Bool
is_mark_of s (Arrive shard params) = shard.0 == s.0
is_mark_of s (GiveBack shard params) = false
is_mark_of s (Skip shard) = shard.0 == s.0

-- how many skips of s there are
abbrev pub skips : ServerId → List ShardCall → ℕ
skips s calls = count_by (is_skip_of s) calls

-- what came in
abbrev pub came : List ShardCall → Counts
came calls = total brought_by calls

-- what was given back of what was sent to s
abbrev pub given_back : ServerId → List ShardCall → Counts
given_back s calls = total (given_back_by s) calls

-- what came, and what was given back at s, after the last arrival at s or skip of s, or of all calls if there is none
abbrev pub pending : ServerId → List ShardCall → Counts
pending s calls = total (λ c. plus (brought_by c) (given_back_by s c)) (after_last (is_mark_of s) calls)

-- what the stamp of a request counts that comes with these params after these calls and goes to s
abbrev pub demanded_counts : ServerId → Params → List ShardCall → Counts
demanded_counts s params calls = plus (pending s calls) (counts_of params)

-- this stamp: it has the request's cost
abbrev pub demanded : ServerId → Params → List ShardCall → Params
demanded s params calls = params_with (demanded_counts s params calls) params.cost

-- what a call stamps to s, after the calls before it
abbrev pub stamped_by : ServerId → List ShardCall → ShardCall → Counts
stamped_by s before (Arrive shard params) = if shard.0 == s.0 then demanded_counts s params before else no_counts
stamped_by s before (GiveBack shard params) = no_counts
stamped_by s before (Skip shard) = no_counts

-- the sum of what the calls of a list stamp to s, after the calls before them
abbrev pub stamped_after : ServerId → (before calls : List ShardCall) → Counts
stamped_after s before [] = no_counts
stamped_after s before (c ∷ cs) = plus (stamped_by s before c) (stamped_after s (before ++ c ∷ []) cs)

abbrev pub stamped : ServerId → List ShardCall → Counts
stamped s calls = stamped_after s [] calls

-- what a call skips at s, after the calls before it: a skip of s skips all that is pending there
abbrev pub skipped_by : ServerId → List ShardCall → ShardCall → Counts
skipped_by s before (Arrive shard params) = no_counts
skipped_by s before (GiveBack shard params) = no_counts
skipped_by s before (Skip shard) = if shard.0 == s.0 then pending s before else no_counts

-- the sum of what the calls of a list skip at s, after the calls before them
abbrev pub skipped_after : ServerId → (before calls : List ShardCall) → Counts
skipped_after s before [] = no_counts
skipped_after s before (c ∷ cs) = plus (skipped_by s before c) (skipped_after s (before ++ c ∷ []) cs)

abbrev pub skipped : ServerId → List ShardCall → Counts
skipped s calls = skipped_after s [] calls

-- what was sent to s: what was stamped to it, without what was given back
abbrev pub sent : ServerId → List ShardCall → Counts
sent s calls = minus (stamped s calls) (given_back s calls)

-- a request with these params has no more than was sent, in both counts
pub record IsWithin (params : Params) (sent : Counts) : Type 0 where
  pub delta : params.delta ≤ sent.delta
  pub rho : params.rho ≤ sent.rho

-- no call of the list gives back more than was sent to its shard before
abbrev pub IsAccepted : List ShardCall → Type 0
IsAccepted calls = (before after : List ShardCall) (s : ServerId) (params : Params)
    → calls ≡ before ++ GiveBack s params ∷ after → IsWithin params (sent s before)
