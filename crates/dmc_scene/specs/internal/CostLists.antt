-- A list of costs in an array, with zeros behind it.
use Rattle.std.specs.Prelude.{◌≡◌, ℕ, ◌-◌, ◌++◌, List, Option, take, drop, length, replicate}
use Rattle.std.proofs.Common.{ap, sym, ◌∙◌}
use Rattle.std.proofs.lemmas.List.{take-append-drop}
use Rattle.std.specs.Option.{option_and_then}
use Rattle.toml.specs.Data.{Data, as_integer}
use Rattle.dmc_scene.specs.SceneValue.{AreCosts, max_costs, max_scene_cost}
use Rattle.dmc_scene.specs.Keys.{number}

-- the cost that a value is
abbrev pub cost_of : Data → Option ℕ
cost_of held = option_and_then (number 1 max_scene_cost) (as_integer held)

-- an array with zeros behind these costs
abbrev pub array_of : List ℕ → List ℕ
array_of costs = costs ++ replicate (max_costs - length costs) 0

-- the first numbers of an array are a list of costs, as many as it has, and the others are 0
pub record IsCostList (units : List ℕ) (count : ℕ) : Type 0 where
  pub costs : AreCosts (take count units)
  pub counts : length (take count units) ≡ count
  pub zeros : drop count units ≡ replicate (max_costs - length (take count units)) 0

-- the array is known by its costs
pub array_again : (units : List ℕ) (count : ℕ) → IsCostList units count → array_of (take count units) ≡ units
array_again units count list = ap (λ more. take count units ++ more) (sym list.zeros) ∙ take-append-drop count units
