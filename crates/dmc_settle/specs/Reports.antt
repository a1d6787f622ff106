-- What a report of a run says.
use Rattle.std.specs.Prelude.{◌≡◌, ℕ, ◌+◌, ◌≤◌, List, Some, length, map, slice_get, sum_by}
use Rattle.dmc_types.specs.Values.{Setting}
use Rattle.std.specs.List.{range_with_len}
use Rattle.dmc_types.specs.declared.ids.ServerId.{ServerId}
use Rattle.dmc_types.specs.declared.config.Counting.{Counting}
use Rattle.dmc_types.specs.declared.config.Counting.TheVariants.{All, Others}
use Rattle.dmc_types.specs.declared.config.PhaseType.{PhaseType}
use Rattle.dmc_types.specs.declared.config.PhaseType.TheVariants.{Reservation, Priority}
use Rattle.dmc_tag.specs.Tag.{Tagging}
use Rattle.dmc_tag.specs.State.{queued_requests}
use Rattle.dmc_tag.specs.Replay.{after, replays}
use Rattle.dmc_book.specs.Counts.{count, stamps_added, delta_added, phase_grants}
use Rattle.dmc_tracker.specs.TrackerList.{completions, responses, stamp_costs}
use Rattle.dmc_tracker.specs.declared.event.TrackerEvent.{TrackerEvent}
use Rattle.dmc_ledger.specs.Bundles.{StampHoldings}
use Rattle.dmc_ledger.specs.Moves.{tills_in}
use Rattle.dmc_tlock.specs.BookState as tracker_book
use Rattle.dmc_book.specs.BookState.{BookState, PassState}
use Rattle.dmc_scene.specs.SceneValue.{SceneValue, ClientValue}
use Rattle.dmc_settle.specs.Left.{Left, stops_of}
use Rattle.dmc_settle.specs.declared.report.ClientReport.{ClientReport}
use Rattle.dmc_settle.specs.declared.report.StampsLeft.{StampsLeft}
use Rattle.dmc_settle.specs.declared.report.ServerReport.{ServerReport}
use Rattle.dmc_settle.specs.declared.report.ClusterReport.{ClusterReport}

-- a server: its history replays, and its numbers are those of the history
pub record IsServerReport {T : Type 0} (ops : Tagging T) (config : Setting) (server : ℕ) (r : ServerReport T) : Type 0 where
  pub its_server : r.server.0 ≡ server
  pub replays : replays ops config r.history.events
  pub reservation : r.reservation ≡ count (phase_grants Reservation) r.history.events
  pub priority : r.priority ≡ count (phase_grants Priority) r.history.events
  pub left : r.left ≡ length (queued_requests (after ops config r.history.events).clients)

-- a client: it sent its accepted adds over all histories
pub record IsClientReport {T : Type 0} (servers : List (ServerReport T)) (client : ClientValue) (r : ClientReport) : Type 0 where
  pub its_client : r.client ≡ client.id
  pub sent : r.sent ≡ sum_by (λ s. count (stamps_added client.id.0) s.history.events) servers

-- the servers and clients of the scene; all completions and all units left are all grants
pub record IsReport {T : Type 0} (ops : Tagging T) (scene : SceneValue) (r : ClusterReport T) : Type 0 where
  pub as_many_servers : length r.servers.items ≡ scene.servers
  pub as_many_clients : length r.clients.items ≡ length scene.clients
  pub servers : (k : ℕ) (s : ServerReport T) → slice_get r.servers.items k ≡ Some s → IsServerReport ops scene.config k s
  pub clients : (k : ℕ) (client : ClientValue) (c : ClientReport) → slice_get scene.clients k ≡ Some client
      → slice_get r.clients.items k ≡ Some c → IsClientReport r.servers.items client c
  pub completed : sum_by (λ c. c.completed) r.clients.items + sum_by (λ s. s.held.reservation + s.held.priority) r.servers.items
      ≡ sum_by (λ s. s.reservation + s.priority) r.servers.items

-- ---- a report of what threads left

-- what a client's pass holds, over all servers
abbrev pub stamps_left : List StampHoldings → StampsLeft
stamps_left pass = record {
  stamps = sum_by (λ t. t.stamps.amount) pass;
  delta = sum_by (λ t. t.delta.amount) pass;
  rho = sum_by (λ t. t.rho.amount) pass;
}

-- what the passes of a server's workers hold, over all clients
abbrev pub units_left : PhaseType → List PassState → ℕ
units_left phase passes = sum_by (λ p. sum_by (λ u. (tills_in phase u).grants.amount) p.units) passes

-- the responses in a tracker's list, over all servers
abbrev pub responses_of : ServerId → List TrackerEvent → ℕ
responses_of s events = responses s Reservation events + responses s Priority events

abbrev pub all_responses : (servers : ℕ) → List TrackerEvent → ℕ
all_responses servers events = sum_by (λ n. responses_of (record { 0 = n }) events) (range_with_len 0 servers)

-- The deltas of a client's accepted adds at a server are at most the costs of its completions, and in `Others` besides those of its
-- stamps to the server.
abbrev pub delta_bound : Counting → ServerId → List TrackerEvent → ℕ
delta_bound All s events = (completions events).delta
delta_bound Others s events = (completions events).delta + stamp_costs s events

abbrev pub AreBounded : {T : Type 0} → Left T → Type 0
AreBounded {T} left = (c s : ℕ) (queue : BookState T) (book : tracker_book.BookState)
    → slice_get left.books s ≡ Some queue → slice_get left.trackers c ≡ Some book
    → count (delta_added book.client) queue.history ≤ delta_bound book.tracker.counting (record { 0 = s }) book.events

-- the histories, the completions and what they cost, what was left in the passes, the stops, and the bound of the deltas
pub record IsReportOf {T : Type 0} (left : Left T) (r : ClusterReport T) : Type 0 where
  pub histories : map (λ s. s.history.events) r.servers.items ≡ map (λ b. b.history) left.books
  pub completed : map (λ c. c.completed) r.clients.items ≡ map (λ t. all_responses (length t.desks) t.events) left.trackers
  pub cost : map (λ c. c.cost) r.clients.items ≡ map (λ t. (completions t.events).delta) left.trackers
  pub stamps_left : map (λ c. c.held) r.clients.items ≡ map stamps_left left.client_passes
  pub units_left : map (λ s. s.held) r.servers.items
      ≡ map (λ passes. record { reservation = units_left Reservation passes; priority = units_left Priority passes }) left.worker_passes
  pub stops : stops_of r ≡ left.stops
  pub deltas : AreBounded left

-- the rows are those of the scene
pub record AreRows {T : Type 0} (scene : SceneValue) (r : ClusterReport T) : Type 0 where
  pub clients : map (λ c. c.client) r.clients.items ≡ map (λ c. c.id) scene.clients
  pub as_many_servers : length r.servers.items ≡ scene.servers
  pub servers : (k : ℕ) (s : ServerReport T) → slice_get r.servers.items k ≡ Some s → s.server.0 ≡ k
