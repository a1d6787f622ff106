-- What a queue keeps to: its limits, and that no two clients have one id.
use Rattle.std.specs.Prelude.{ℕ, ◌≤◌, List, length}
use Rattle.std.specs.List.{IsDistinct}
use Rattle.dmc_tag.specs.State.{PlainClient, is_client, queued_requests}

-- it is within the limits, and no two clients have one id
pub record IsKept {T : Type 0} (most_clients most_requests : ℕ) (clients : List (PlainClient T)) : Type 0 where
  pub few : length clients ≤ most_clients
  pub room : length (queued_requests clients) ≤ most_requests
  pub apart : IsDistinct (λ c d. is_client c.id d.id) clients
