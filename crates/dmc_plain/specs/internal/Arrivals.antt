-- An arrival in two parts: the request is queued, which may fail, before others are shifted; the rest is recorded after that.
use Rattle.std.specs.Prelude.{◌≡◌, ℕ, true, false, List, [], ◌∷◌, ◌++◌, Some, slice_get, is_some}
use Rattle.dmc_tag.specs.State.{PlainClient}
use Rattle.dmc_tag.specs.Rules.{Addition, previous_after}
use Rattle.dmc_tag.specs.declared.plain.QueuedRequest.{QueuedRequest}
use Rattle.dmc_tag.specs.declared.plain.Slack.{Slack}
use Rattle.dmc_tag.specs.declared.reply.Tags.{Tags}
use Rattle.dmc_plain.specs.declared.queue.adding.Arrival.{Arrival}

abbrev pub appended : {T : Type 0} → QueuedRequest T → PlainClient T → PlainClient T
appended request c = record c { requests = c.requests ++ request ∷ [] }

abbrev pub arrived : {T : Type 0} → Tags T → Slack T → ℕ → PlainClient T → PlainClient T
arrived tags slack t c = record c { previous = previous_after tags slack c.previous; idle = false; last_arrival = t }

-- what the add brings
abbrev pub addition_of : {T : Type 0} → Arrival T → Addition T
addition_of arrival = record { shift = arrival.shift; tags = arrival.tags; slack = arrival.slack }

-- The client is at the index. If there is a shift, it is idle, so that it is not shifted itself.
pub record IsArrival {T : Type 0} (clients : List (PlainClient T)) (arrival : Arrival T) : Type 0 where
  pub client : PlainClient T
  pub client_at : slice_get clients arrival.index ≡ Some client
  pub id : client.id ≡ arrival.client
  pub idle : is_some arrival.shift ≡ true → client.idle ≡ true
