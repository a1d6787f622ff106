-- The definitions, computed on two shards: a request to shard 0, one to shard 1 that its queue refuses, one to shard 1 again, and a
-- skip of shard 0.
use Rattle.std.proofs.Common.{◌≡◌, ℕ, ◌-◌, ◌^◌, List, [], ◌∷◌, ◌++◌, refl, arith, inl, inr}
use Rattle.dmc_types.specs.Values.{Params, Counts}
use Rattle.dmc_types.specs.declared.ids.ServerId.{ServerId}
use Rattle.dmc_shards.specs.declared.call.ShardCall.{ShardCall}
use Rattle.dmc_shards.specs.declared.call.ShardCall.TheVariants.{Arrive, GiveBack, Skip}
use Rattle.dmc_shards.specs.CallList.{came, given_back, pending, demanded, stamped, sent, skips, skipped}
use Rattle.dmc_shards.specs.ShardNumbers.{Numbers, new_numbers, next_params, after_arrival, after_give_back, after_skip, numbers_of, numbers_at, IsFullAt, IsNotSentAt}

abbrev counts : ℕ → ℕ → Counts
counts delta rho = record { delta = delta; rho = rho }

abbrev params : ℕ → ℕ → ℕ → Params
params delta rho cost = record { delta = delta; rho = rho; cost = cost }

abbrev shard : ℕ → ServerId
shard n = record { 0 = n }

-- the first two requests; the second is given back; the third
abbrev two : List ShardCall
two = Arrive (shard 0) (params 2 1 1) ∷ Arrive (shard 1) (params 3 0 4) ∷ []

abbrev back : List ShardCall
back = two ++ GiveBack (shard 1) (params 5 1 4) ∷ []

abbrev all : List ShardCall
all = back ++ Arrive (shard 1) (params 1 1 2) ∷ []

-- the stamp of the second request has what came with the first, too; that of the third has what was given back
second-stamp : demanded (shard 1) (params 3 0 4) (Arrive (shard 0) (params 2 1 1) ∷ []) ≡ params 5 1 4
second-stamp = refl

third-stamp : demanded (shard 1) (params 1 1 2) back ≡ params 6 2 2
third-stamp = refl

came-all : came all ≡ counts 6 2
came-all = refl

stamped-all : stamped (shard 1) all ≡ counts 11 3
stamped-all = refl

given_back-all : given_back (shard 1) all ≡ counts 5 1
given_back-all = refl

sent-all : sent (shard 1) all ≡ counts 6 2
sent-all = refl

pending-all : pending (shard 1) all ≡ counts 0 0
pending-all = refl

-- shard 0 has what came with its own request, and the rest is pending there
sent-first : sent (shard 0) all ≡ counts 2 1
sent-first = refl

pending-first : pending (shard 0) all ≡ counts 4 1
pending-first = refl

-- shard 0 is skipped: what was pending there is skipped, and the next stamp to it counts only what comes later
abbrev skipping : List ShardCall
skipping = all ++ Skip (shard 0) ∷ []

skips-first : skips (shard 0) skipping ≡ 1
skips-first = refl

skipped-first : skipped (shard 0) skipping ≡ counts 4 1
skipped-first = refl

skipped-second : skipped (shard 1) skipping ≡ counts 0 0
skipped-second = refl

sent-after_skip : sent (shard 0) skipping ≡ counts 2 1
sent-after_skip = refl

pending-after_skip : pending (shard 0) skipping ≡ counts 0 0
pending-after_skip = refl

stamp-after_skip : demanded (shard 0) (params 3 0 1) skipping ≡ params 3 0 1
stamp-after_skip = refl

-- ---- the same in numbers

abbrev after_two : Numbers
after_two = after_arrival (shard 1) (params 3 0 4) (after_arrival (shard 0) (params 2 1 1) (new_numbers 6 2))

abbrev after_back : Numbers
after_back = after_give_back (shard 1) (params 5 1 4) after_two

abbrev after_all : Numbers
after_all = after_arrival (shard 1) (params 1 1 2) after_back

next-third : next_params after_back (shard 1) (params 1 1 2) ≡ params 6 2 2
next-third = refl

first-numbers : numbers_at after_all (shard 0) ≡ numbers_of (shard 0) all
first-numbers = refl

second-numbers : numbers_at after_all (shard 1) ≡ numbers_of (shard 1) all
second-numbers = refl

abbrev after_skipping : Numbers
after_skipping = after_skip (shard 0) after_all

skipped-numbers : numbers_at after_skipping (shard 0) ≡ numbers_of (shard 0) skipping
skipped-numbers = refl

kept-numbers : numbers_at after_skipping (shard 1) ≡ numbers_of (shard 1) skipping
kept-numbers = refl

-- 6 is the most that can come: one more is refused, and so is giving back more than was sent
full : IsFullAt after_all (shard 0) (params 1 0 1)
full = record { within = omega arith; past = inl (omega arith) }

wide : IsFullAt (record after_all { most = 2 ^ 62 }) (shard 0) (params (2 ^ 32 - 4) 0 1)
wide = record { within = omega arith; past = inr (omega arith) }

-- after the skip that stamp is none too wide
narrow : IsFullAt (record after_skipping { most = 2 ^ 62 }) (shard 0) (params (2 ^ 32 - 4) 0 1) → ⊥
narrow h = elim h.past [
  | inl past ↦ omega (arith, past)
  | inr wide ↦ omega (arith, wide)
]

twice : IsNotSentAt after_back (shard 1) (params 5 1 4)
twice = record { within = omega arith; past = inl (omega arith) }
