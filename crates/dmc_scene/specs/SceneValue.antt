-- What contracts see of a scene, and the limits that each scene is within.
use Rattle.std.specs.Prelude.{◌≢◌, ℕ, ◌%◌, ◌<◌, ◌≤◌, ◌^◌, ◌==◌, ◌&&◌, nat_le, Bool, IsTrue, IfSome, List, length, All, AllPairs, Option, Some, None, get_or, is_some}
use Rattle.std.specs.List.{list_any}
use Rattle.dmc_types.specs.Limits.{max_hz, max_step, max_window, max_client_requests, limit_of_pulls, max_scene_clients, max_server_workers, max_servers}
use Rattle.dmc_types.specs.Values.{Rates, Setting}
use Rattle.dmc_types.specs.declared.ids.ClientId.{ClientId}
use Rattle.dmc_types.specs.declared.config.Counting.{Counting}
use Rattle.dmc_types.specs.declared.config.TagKind.{TagKind}
use Rattle.dmc_types.specs.declared.config.TagKind.TheVariants.{Tick, Ratio}

-- a client of a scene
pub record ClientValue : Type 0 where
  pub id : ClientId
  pub info : Rates
  pub requests : ℕ
  pub window : ℕ
  pub costs : Option (List ℕ)

-- the most costs of a client's list, and the greatest of them
abbrev pub max_costs : ℕ
max_costs = 16

abbrev pub max_scene_cost : ℕ
max_scene_cost = 1024

-- a client's list of costs
pub record AreCosts (costs : List ℕ) : Type 0 where
  pub some : 0 < length costs
  pub limit : length costs ≤ max_costs
  pub least : All (λ c. 0 < c) costs
  pub greatest : All (λ c. c ≤ max_scene_cost) costs

-- the cost of a client's request with this number, counted from 0: the costs of the list in turn; without a list each is 1
abbrev pub cost_at : Option (List ℕ) → ℕ → ℕ
cost_at None number = 1
cost_at (Some costs) number = get_or costs (number % length costs) 1

-- a client of these has costs
abbrev pub has_costs : List ClientValue → Bool
has_costs clients = list_any (λ c. is_some c.costs) clients

pub record SceneValue : Type 0 where
  pub config : Setting
  pub tags : TagKind
  pub servers : ℕ
  pub workers : ℕ
  pub step : ℕ
  pub seed : ℕ
  pub max_pulls : ℕ
  pub counting : Counting
  pub clients : List ClientValue

-- in ticks a rate has a spacing if it divides hz; in ratios if it is 1 to 2^32, which is the greatest denominator
abbrev pub has_spacing : TagKind → ℕ → ℕ → Bool
has_spacing Tick hz rate = hz % rate == 0
has_spacing Ratio hz rate = nat_le 1 rate && nat_le rate (2 ^ 32)

abbrev pub HasSpacing : TagKind → ℕ → ℕ → Type 0
HasSpacing tags hz rate = IsTrue (has_spacing tags hz rate)

-- each rate that is there has a spacing
pub record AreSpaced (tags : TagKind) (hz : ℕ) (info : Rates) : Type 0 where
  pub reserved : IfSome info.reservation (HasSpacing tags hz)
  pub weighed : HasSpacing tags hz info.weight
  pub limited : IfSome info.limit (HasSpacing tags hz)

-- the limits of a client
pub record IsClient (requests window : ℕ) : Type 0 where
  pub requests_limit : requests ≤ max_client_requests
  pub some_window : 0 < window
  pub window_limit : window ≤ max_window

-- two clients have different ids
abbrev pub AreApart : ClientValue → ClientValue → Type 0
AreApart a b = a.id ≢ b.id

-- the limits of the numbers of a scene
pub record AreSizes (servers workers step seed max_pulls : ℕ) : Type 0 where
  pub some_servers : 0 < servers
  pub servers_limit : servers ≤ max_servers
  pub some_workers : 0 < workers
  pub workers_limit : workers ≤ max_server_workers
  pub some_step : 0 < step
  pub step_limit : step ≤ max_step
  pub seed_limit : seed < 2 ^ 63
  pub some_pulls : 0 < max_pulls
  pub pulls_limit : max_pulls ≤ limit_of_pulls

-- the limits of its ticks a second and of its clients
pub record AreClients (tags : TagKind) (hz : ℕ) (clients : List ClientValue) : Type 0 where
  pub some_hz : 0 < hz
  pub hz_limit : hz ≤ max_hz
  pub some : 0 < length clients
  pub limit : length clients ≤ max_scene_clients
  pub apart : AllPairs AreApart clients
  pub spaced : All (λ c. AreSpaced tags hz c.info) clients
