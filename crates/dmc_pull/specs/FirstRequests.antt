-- The index clause: what the three indexes of a queue hold, in terms of the plain state that the queue represents.
use Rattle.std.specs.Prelude.{◌≡◌, ℕ, true, List, Option, Some, slice_get}
use Rattle.std.specs.Option.{option_map, option_and_then}
use Rattle.dmc_types.specs.declared.ids.ClientId.{ClientId}
use Rattle.dmc_tag.specs.Tag.{Tagging}
use Rattle.dmc_tag.specs.State.{State, PlainClient, client_named, has_queued}
use Rattle.dmc_tag.specs.Best.{is_due}
use Rattle.dmc_tag.specs.declared.plain.QueuedRequest.{QueuedRequest}
use Rattle.dmc_index.specs.Index.{slot_of_key}
use Rattle.dmc_head_index.specs.declared.head.Head.{Head}

-- the client's queued request that arrived first
abbrev pub first_request : {T : Type 0} → ClientId → List (PlainClient T) → Option (QueuedRequest T)
first_request id clients = option_and_then (λ c. slice_get c.requests 0) (client_named id clients)

-- the client of a key
abbrev pub client_at : {X : Type 0} → (X → ClientId) → List (Option X) → ℕ → Option ClientId
client_at client slots key = option_map client (slot_of_key slots key)

abbrev pub head_client : {T : Type 0} → Head T → ClientId
head_client head = head.client

-- Exactly the clients with a queued request have a key, each one key, with the tags of its first request. A ready mark is true
-- only if L is at most the last effective moment.
pub record AreFirstRequests {T : Type 0} (ops : Tagging T) (s : State T) (heads : List (Option (Head T))) : Type 0 where
  -- the tags at a key are those of its client's first request
  pub tags : (key : ℕ) (head : Head T) → slot_of_key heads key ≡ Some head → option_map (λ r. r.tags) (first_request head.client s.clients) ≡ Some head.tags
  -- each client with a queued request has a key
  pub has_key : (id : ClientId) → has_queued id s.clients ≡ true → (key : ℕ) × (client_at head_client heads key ≡ Some id)
  -- no client has two keys
  pub one_key : (a b : ℕ) (id : ClientId) → client_at head_client heads a ≡ Some id → client_at head_client heads b ≡ Some id → a ≡ b
  pub marks : (key : ℕ) (head : Head T) → slot_of_key heads key ≡ Some head → head.ready ≡ true → is_due ops s.last_moment (Some head.tags.l) ≡ true
