-- The plain state: each client with its queued requests, and nothing that a rule can compute.
use Rattle.std.specs.Prelude.{ℕ, Bool, not, ◌&&◌, ◌==◌, max, List, [], length, flat_map, Option}
use Rattle.std.specs.List.{find, list_any}
use Rattle.std.specs.Option.{option_map_or}
use Rattle.dmc_types.specs.Values.{Setting, Rates}
use Rattle.dmc_types.specs.declared.ids.ClientId.{ClientId}
use Rattle.dmc_tag.specs.Tag.{Tagging}
use Rattle.dmc_tag.specs.declared.plain.Previous.{Previous}
use Rattle.dmc_tag.specs.declared.plain.Progress.{Progress}
use Rattle.dmc_tag.specs.declared.plain.QueuedRequest.{QueuedRequest}

-- a registered client
pub record PlainClient (T : Type 0) : Type 0 where
  pub id : ClientId
  pub info : Rates
  pub previous : Previous T
  pub idle : Bool
  -- the effective moment of its last accepted request, or of its registration if there is none
  pub last_arrival : ℕ
  -- in order of arrival
  pub requests : List (QueuedRequest T)

pub record State (T : Type 0) : Type 0 where
  pub config : Setting
  -- in order of registration
  pub clients : List (PlainClient T)
  -- the last effective moment
  pub last_moment : ℕ
  -- the virtual time, and the furthest P; both stay 0 under Shares::Clock
  pub progress : Progress T

abbrev pub no_progress : {T : Type 0} → Tagging T → Progress T
no_progress ops = record { virtual_time = ops.of_moment 0; furthest = ops.of_moment 0 }

abbrev pub opening : {T : Type 0} → Tagging T → Setting → State T
opening ops config = record { config = config; clients = []; last_moment = 0; progress = no_progress ops }

-- Effective moment
abbrev pub effective : {T : Type 0} → State T → ℕ → ℕ
effective s at = max at s.last_moment

abbrev pub is_client : ClientId → ClientId → Bool
is_client id other = other.0 == id.0

abbrev pub client_named : {T : Type 0} → ClientId → List (PlainClient T) → Option (PlainClient T)
client_named id clients = find (λ c. is_client id c.id) clients

-- a request of this client is queued
abbrev pub is_busy : {T : Type 0} → PlainClient T → Bool
is_busy c = not (length c.requests == 0)

-- the client is registered, and a request of it is queued
abbrev pub has_queued : {T : Type 0} → ClientId → List (PlainClient T) → Bool
has_queued id clients = list_any (λ c. is_client id c.id && is_busy c) clients

-- registered, and not idle
abbrev pub is_active : {T : Type 0} → ClientId → List (PlainClient T) → Bool
is_active id clients = list_any (λ c. is_client id c.id && not c.idle) clients

-- the queued requests of the client with this id; none if it is not registered
abbrev pub requests_of : {T : Type 0} → ClientId → List (PlainClient T) → List (QueuedRequest T)
requests_of id clients = option_map_or (λ c. c.requests) (client_named id clients) []

-- the requests of all clients, client after client
abbrev pub queued_requests : {T : Type 0} → List (PlainClient T) → List (QueuedRequest T)
queued_requests clients = flat_map (λ c. c.requests) clients

abbrev pub is_nothing_queued : {T : Type 0} → List (PlainClient T) → Bool
is_nothing_queued clients = length (queued_requests clients) == 0
