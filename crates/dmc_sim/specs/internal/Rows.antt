-- The rows of a report: of a client, of a server that has granted nothing, and of one whose queued requests have been counted.
use Rattle.std.specs.Prelude.{◌≡◌, ℕ, ◌-◌, ◌<◌, List, length, slice_get, slice_index_or, option_map, unwrap_or}
use Rattle.std.specs.List.{find}
use Rattle.std.specs.Option.{option_map_or}
use Rattle.dmc_types.specs.declared.ids.ClientId.{ClientId}
use Rattle.dmc_tag.specs.State.{State, is_client, queued_requests}
use Rattle.dmc_core.specs.Core.{Held}
use Rattle.dmc_sim.specs.declared.client.SimClient.{SimClient}
use Rattle.dmc_sim.specs.declared.report.ClientReport.{ClientReport}
use Rattle.dmc_sim.specs.declared.report.ServerReport.{ServerReport}

abbrev pub row_of : SimClient → ClientReport
row_of c = record {
  client = c.scene.id;
  sent = c.sent;
  completed = c.completed;
  reservation = c.reservation;
  priority = c.completed - c.reservation;
  cost = c.cost;
}

-- what a client's completions cost, 0 if the cluster has no such client
abbrev pub cost_in : List Held → ClientId → ℕ
cost_in clients id = option_map_or (λ h. h.tracker.completions.delta) (find (λ h. is_client id h.id) clients) 0

-- the client with what its completions cost
pub record HasCost (clients : List Held) (old new : SimClient) : Type 0 where
  pub scene : new.scene ≡ old.scene
  pub plan : new.plan.items ≡ old.plan.items
  pub sent : new.sent ≡ old.sent
  pub completed : new.completed ≡ old.completed
  pub reservation : new.reservation ≡ old.reservation
  pub cost : new.cost ≡ cost_in clients old.scene.id

abbrev pub HaveCosts : List Held → (old new : List SimClient) → Type 0
HaveCosts clients old new = (k : ℕ) (c : SimClient) → k < length old → HasCost clients (slice_index_or old k c) (slice_index_or new k c)

abbrev pub idle_row : ℕ → ServerReport
idle_row server = record { server = record { 0 = server }; reservation = 0; priority = 0; left = 0 }

-- with the number of requests in the server's queue, 0 if there is no such server
abbrev pub with_left : {T Q : Type 0} → (Q → State T) → List Q → ServerReport → ServerReport
with_left state queues row = record row { left = unwrap_or (option_map (λ queue. length (queued_requests (state queue).clients)) (slice_get queues row.server.0)) 0 }
