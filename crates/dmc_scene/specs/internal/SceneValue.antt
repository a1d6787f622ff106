-- Ids that are not taken.
use Rattle.std.specs.Prelude.{◌≢◌, ℕ, List, All}
use Rattle.dmc_scene.specs.SceneValue.{ClientValue}

-- none of the clients has the id
abbrev pub IsFresh : List ClientValue → ℕ → Type 0
IsFresh clients id = All (λ c. c.id.0 ≢ id) clients
