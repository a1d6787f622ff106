-- Where a request is.
use Rattle.std.specs.Prelude.{◌≡◌, ℕ, List, Option, Some, None, slice_get}
use Rattle.std.specs.Option.{option_map, option_and_then}
use Rattle.dmc_tag.specs.State.{PlainClient}
use Rattle.dmc_tag.specs.Best.{Found, found_in}
use Rattle.dmc_tag.specs.declared.plain.QueuedRequest.{QueuedRequest}
use Rattle.dmc_plain.specs.declared.best.Place.{Place}
use Rattle.dmc_plain.specs.internal.Sets.{one_found}

-- the request at an index, its client, and the client's other requests
abbrev pub found_among : {T : Type 0} → ℕ → PlainClient T → Option (Found T)
found_among i c = option_map (found_in c) (one_found c.requests (Some i))

-- the request at a place, its client, and the client's other requests
abbrev pub found_at : {T : Type 0} → List (PlainClient T) → Place → Option (Found T)
found_at clients place = option_and_then (found_among place.request) (slice_get clients place.client)

abbrev pub place_found : {T : Type 0} → List (PlainClient T) → Option Place → Option (Found T)
place_found clients None = None
place_found clients (Some place) = found_at clients place

-- a request is there
pub record IsPlace {T : Type 0} (clients : List (PlainClient T)) (place : Place) : Type 0 where
  pub client : PlainClient T
  pub request : QueuedRequest T
  pub client_at : slice_get clients place.client ≡ Some client
  pub request_at : slice_get client.requests place.request ≡ Some request
