-- What contracts see of the checked values.
use Rattle.std.specs.Prelude.{ℕ, ◌+◌, ◌-◌, ◌≤◌, ◌<◌, Option, IfSome}
use Rattle.dmc_types.specs.Limits.{max_hz, max_moment}
use Rattle.dmc_types.specs.declared.config.AtLimit.{AtLimit}
use Rattle.dmc_types.specs.declared.config.AtLimit.TheVariants.{Wait, Allow, Reject}
use Rattle.dmc_types.specs.declared.config.Shares.{Shares}
use Rattle.dmc_types.specs.declared.config.Counting.{Counting}
use Rattle.dmc_types.specs.declared.config.Counting.TheVariants.{All, Others}

-- what a request carries: the two counts of its stamp, and its cost
pub record Params : Type 0 where
  pub delta : ℕ
  pub rho : ℕ
  pub cost : ℕ

-- sums of deltas and of rhos
pub record Counts : Type 0 where
  pub delta : ℕ
  pub rho : ℕ

abbrev pub no_counts : Counts
no_counts = record { delta = 0; rho = 0 }

-- the counts of a request, and the request of these counts and this cost
abbrev pub counts_of : Params → Counts
counts_of params = record { delta = params.delta; rho = params.rho }

abbrev pub params_with : Counts → ℕ → Params
params_with counts cost = record { delta = counts.delta; rho = counts.rho; cost = cost }

-- what a request of this cost adds to the counts of its own stamp
abbrev pub own_count : Counting → ℕ → ℕ
own_count All cost = 0
own_count Others cost = cost

-- the request with the counts of another one besides, which no server took: without what that one added itself
abbrev pub with_returned : Counting → Params → Params → Params
with_returned counting returned params = record {
  delta = params.delta + (returned.delta - own_count counting returned.cost);
  rho = params.rho + (returned.rho - own_count counting returned.cost);
  cost = params.cost;
}

-- the rates of a client, in requests a second
pub record Rates : Type 0 where
  pub reservation : Option ℕ
  pub weight : ℕ
  pub limit : Option ℕ

-- the settings of a queue
pub record Setting : Type 0 where
  pub hz : ℕ
  pub idle_age : ℕ
  pub erase_age : ℕ
  pub at_limit : AtLimit
  pub shares : Shares

-- a rate is 1 or more
abbrev pub IsRate : ℕ → Type 0
IsRate q = 0 < q

-- each rate that is there is 1 or more
pub record AreRates (reservation : Option ℕ) (weight : ℕ) (limit : Option ℕ) : Type 0 where
  pub reserved : IfSome reservation IsRate
  pub weighed : IsRate weight
  pub limited : IfSome limit IsRate

-- how long a request may wait for its limit; 0 if nothing is refused for it
abbrev pub threshold_of : AtLimit → ℕ
threshold_of Wait = 0
threshold_of Allow = 0
threshold_of (Reject threshold) = threshold

-- the limits of a configuration
pub record IsSetting (hz idle_age erase_age : ℕ) (at_limit : AtLimit) : Type 0 where
  pub some_hz : 0 < hz
  pub hz_limit : hz ≤ max_hz
  pub some_age : 0 < idle_age
  pub in_order : idle_age ≤ erase_age
  pub age_limit : erase_age ≤ max_moment
  pub threshold_limit : threshold_of at_limit ≤ max_moment
