-- What the report of a settled cluster says.
use Rattle.std.proofs.Common.{◌≡◌, ℕ, ◌<◌, ◌≤◌, List, [], Some, length, map, get_or, slice_get, refl, sym, ap, ◌∙◌, subst, arith}
use Rattle.std.specs.Global.{Vec}
use Rattle.std.specs.Prelude.{sum_by}
use Rattle.std.proofs.lemmas.List.{length-map}
use Rattle.std.proofs.lemmas.Simd.{map-map}
use Rattle.std.proofs.lemmas.Option.{get_or_from_slice_get, slice_get-get_or, slice_get_within}
use Rattle.dmc_types.specs.Values.{Counts}
use Rattle.dmc_types.specs.declared.ids.ServerId.{ServerId}
use Rattle.dmc_types.specs.declared.config.Counting.{Counting}
use Rattle.dmc_types.specs.declared.config.Counting.TheVariants.{All, Others}
use Rattle.dmc_tag.specs.Tag.{Tagging}
use Rattle.dmc_tag.specs.declared.event.Event.{Event}
use Rattle.dmc_tracker.specs.declared.event.TrackerEvent.{TrackerEvent}
use Rattle.dmc_tracker.specs.TrackerList.{completions, sent}
use Rattle.dmc_tracker.specs.Numbers.{ServerNumbers}
use Rattle.dmc_tracker.proofs.ForCallers.{completions-by_server}
use Rattle.dmc_ledger.specs.Bundles.{ClientSide}
use Rattle.dmc_tlock.specs.BookState as tracker_book
use Rattle.dmc_tlock.specs.Consistent.{IsConsistent, due}
use Rattle.dmc_book.specs.BookState.{BookState, no_desk}
use Rattle.dmc_book.specs.Counts.{count, stamps_added, delta_added}
use Rattle.dmc_scene.specs.SceneValue.{SceneValue, ClientValue}
use Rattle.dmc_settle.specs.internal.Filled as filled
use Rattle.dmc_settle.specs.internal.Filled.{ClientNumbers, client_numbers, no_client_numbers, no_server_numbers, server_numbers, grants_left}
use Rattle.dmc_settle.specs.internal.Places.{no_book, no_tracker}
use Rattle.dmc_settle.specs.Left.{Left, stops_of}
use Rattle.dmc_settle.specs.Reports.{AreBounded, IsServerReport, IsClientReport, IsReportOf, all_responses, delta_bound, stamps_left}
use Rattle.dmc_settle.specs.declared.report.ClientReport.{ClientReport}
use Rattle.dmc_settle.specs.declared.report.ServerReport.{ServerReport}
use Rattle.dmc_settle.specs.declared.report.StopCause.{StopCause}
use Rattle.dmc_settle.specs.declared.report.ClusterReport.{ClusterReport}
use Rattle.dmc_settle.proofs.Balance.{sum_seen}
use Rattle.dmc_settle.proofs.Circles.{IsSettledCluster, circle_at, its_desk}
use Rattle.dmc_settle.proofs.Lists.{alike_at, alike_long, alike_places, seen_at}
use Rattle.dmc_settle.proofs.Ready.{client_at, desks_long, no_client, server_at}
use Rattle.dmc_settle.proofs.Sums.{sum_to, sum_places, same_sum}

-- what is sent to a server is at most what is due there
sent_within_due : (b : tracker_book.BookState) (s : ServerId) → s.0 < length b.desks → IsConsistent b → (sent s b.events).delta ≤ (due b.tracker.counting s b.events).delta
sent_within_due b s within h =
    let here = ap (λ (x : ServerNumbers). x.sent.delta) (h.represents.each s (omega (arith, within, h.servers))) in
    let sum = ap (λ (x : Counts). x.delta) (h.balanced s within) in
    omega (arith, here, sum)

within_bound : (counting : Counting) (n : ℕ) (s : ServerId) (events : List TrackerEvent) → n ≤ (due counting s events).delta
    → n ≤ delta_bound counting s events
within_bound All n s events small = small
within_bound Others n s events small =
    let parts = ap (λ (x : Counts). x.delta) (completions-by_server events s) in
    omega (arith, small, parts)

-- two reports whose rows name the same stops
pub same_stops : {T : Type 0} (old new : ClusterReport T)
    → map (λ c. c.stop) new.clients.items ≡ map (λ c. c.stop) old.clients.items
    → map (λ c. c.failed) new.clients.items ≡ map (λ c. c.failed) old.clients.items
    → map (λ s. s.stops) new.servers.items ≡ map (λ s. s.stops) old.servers.items → stops_of new ≡ stops_of old
same_stops {T} old new stop failed stops =
    let items : Vec StopCause → List StopCause = (λ v. v.items) in
    let read : ServerReport T → Vec StopCause = (λ s. s.stops) in
    let servers = sym (map-map items read new.servers.items) ∙ ap (map items) stops ∙ map-map items read old.servers.items in
    rw (stop, failed, servers) refl

module _ {T : Type 0} (ops : Tagging T) (scene : SceneValue) (r : Left T) (desks : List (List ClientSide)) (old new : ClusterReport T)
    (h : IsSettledCluster ops scene r desks old new) where
  pub servers_long : length new.servers.items ≡ scene.servers
  servers_long = alike_long (λ (s : ServerReport T). s.server) (λ (s : ServerReport T). s.server) new.servers.items old.servers.items h.same_servers ∙ h.rows.as_many_servers

  pub clients_are : map (λ c. c.client) new.clients.items ≡ map (λ c. c.id) scene.clients
  clients_are = h.same_clients ∙ h.rows.clients

  pub clients_long : length new.clients.items ≡ length scene.clients
  clients_long = alike_long (λ (c : ClientReport). c.client) (λ (c : ClientValue). c.id) new.clients.items scene.clients clients_are

  -- a server's row
  numbers_of : (k : ℕ) (s : ServerReport T) → slice_get new.servers.items k ≡ Some s → filled.AreServerNumbers ops (get_or r.books k no_book) (get_or r.worker_passes k []) (server_numbers s)
  numbers_of k s at =
      let within = slice_get_within new.servers.items k s at in
      subst (λ (n : filled.ServerNumbers T). filled.AreServerNumbers ops (get_or r.books k no_book) (get_or r.worker_passes k []) n)
      (seen_at server_numbers new.servers.items k s no_server_numbers at)
      (h.servers k (omega (arith, within, servers_long, h.together.books)))

  pub events_of : (k : ℕ) (s : ServerReport T) → slice_get new.servers.items k ≡ Some s → s.history.events ≡ (get_or r.books k no_book).history
  events_of k s at = (numbers_of k s at).events

  pub server_report : (k : ℕ) (s : ServerReport T) → slice_get new.servers.items k ≡ Some s → IsServerReport ops scene.config k s
  server_report k s at =
      let within = slice_get_within new.servers.items k s at in
      let in_servers : k < scene.servers = omega (arith, within, servers_long) in
      let in_old : k < length old.servers.items = omega (arith, in_servers, h.rows.as_many_servers) in
      let book = get_or r.books k no_book in
      let n = numbers_of k s at in
      let config : book.config ≡ scene.config = (server_at scene r h.together k in_servers).config in
      let same = alike_at (λ (x : ServerReport T). x.server) (λ (x : ServerReport T). x.server) new.servers.items old.servers.items k s s within in_old h.same_servers in
      record {
        its_server = ap (λ (x : ServerReport T). x.server.0) (sym (get_or_from_slice_get new.servers.items k s s at)) ∙ ap (λ x. x.0) same ∙ h.rows.servers k _ (slice_get-get_or old.servers.items k s in_old);
        replays = rw (n.events, ← config) n.replays;
        reservation = rw n.events n.reservation;
        priority = rw n.events n.priority;
        left = rw (n.events, ← config) n.left;
      }

  -- a client's row
  client_numbers_of : (k : ℕ) (c : ClientReport) → slice_get new.clients.items k ≡ Some c → filled.AreClientNumbers desks k (get_or r.trackers k no_tracker) (get_or r.client_passes k []) (client_numbers c)
  client_numbers_of k c at =
      let within = slice_get_within new.clients.items k c at in
      subst (λ (n : ClientNumbers). filled.AreClientNumbers desks k (get_or r.trackers k no_tracker) (get_or r.client_passes k []) n)
      (seen_at client_numbers new.clients.items k c no_client_numbers at)
      (h.clients k (omega (arith, within, clients_long, h.together.trackers)))

  -- the stamps of the client at a server
  stamps_at : (k : ℕ) (client : ClientValue) → slice_get scene.clients k ≡ Some client → (s : ℕ) → s < scene.servers
      → (get_or (get_or desks s []) k no_desk).held.stamps.amount ≡ count (stamps_added client.id.0) (get_or r.books s no_book).history
  stamps_at k client at s in_servers =
      let in_clients = slice_get_within scene.clients k client at in
      let d = (h.settled s (omega (arith, in_servers, h.together.books))).each k (omega (arith, in_clients, desks_long scene r h.together s in_servers)) in
      d.stamps ∙ ap (λ n. count (stamps_added n) (get_or r.books s no_book).history) (its_desk ops scene r desks old new h k s client in_servers at)

  sent_is : (k : ℕ) (client : ClientValue) → slice_get scene.clients k ≡ Some client
      → filled.stamps_taken desks k ≡ sum_to scene.servers (λ s. count (stamps_added client.id.0) (get_or r.books s no_book).history)
  sent_is k client at =
      sum_places (λ (ds : List ClientSide). (get_or ds k no_desk).held.stamps.amount) desks []
      ∙ ap (λ n. sum_to n (λ s. (get_or (get_or desks s []) k no_desk).held.stamps.amount)) (h.desks_each ∙ h.together.books)
      ∙ same_sum scene.servers (λ s. (get_or (get_or desks s []) k no_desk).held.stamps.amount) (λ s. count (stamps_added client.id.0) (get_or r.books s no_book).history) (stamps_at k client at)

  counted_is : (f : List (Event T) → ℕ) → sum_by (λ s. f s.history.events) new.servers.items ≡ sum_to scene.servers (λ s. f (get_or r.books s no_book).history)
  counted_is f =
      let numbers = map server_numbers new.servers.items in
      let g : filled.ServerNumbers T → ℕ = (λ n. f n.events) in
      let read : ServerReport T → filled.ServerNumbers T = server_numbers in
      sym (sum_seen g read new.servers.items) ∙ sum_places g (map read new.servers.items) no_server_numbers
      ∙ ap (λ n. sum_to n (λ s. f (get_or (map read new.servers.items) s no_server_numbers).events)) (length-map new.servers.items read ∙ servers_long)
      ∙ same_sum scene.servers (λ s. f (get_or (map read new.servers.items) s no_server_numbers).events) (λ s. f (get_or r.books s no_book).history)
      (λ s within. ap f (h.servers s (omega (arith, within, h.together.books))).events)

  pub client_report : (k : ℕ) (client : ClientValue) (c : ClientReport) → slice_get scene.clients k ≡ Some client → slice_get new.clients.items k ≡ Some c
      → IsClientReport new.servers.items client c
  client_report k client c at at_row =
      let in_clients = slice_get_within scene.clients k client at in
      let in_rows = slice_get_within new.clients.items k c at_row in
      let n = client_numbers_of k c at_row in
      let sent_all = sent_is k client at in
      record {
        its_client = ap (λ (x : ClientReport). x.client) (sym (get_or_from_slice_get new.clients.items k c c at_row))
            ∙ alike_at (λ (x : ClientReport). x.client) (λ (x : ClientValue). x.id) new.clients.items scene.clients k c client in_rows in_clients clients_are
            ∙ ap (λ (x : ClientValue). x.id) (get_or_from_slice_get scene.clients k client client at);
        sent = n.sent ∙ sent_all ∙ sym (counted_is (count (stamps_added client.id.0)));
      }

  -- the deltas of a client's accepted adds at a server
  bounded : AreBounded r
  bounded c s queue book at_queue at_book =
      let in_clients : c < length scene.clients = (let w = slice_get_within r.trackers c book at_book in omega (arith, w, h.together.trackers)) in
      let in_servers : s < scene.servers = (let w = slice_get_within r.books s queue at_queue in omega (arith, w, h.together.books)) in
      let tracker = get_or r.trackers c no_tracker in
      let id : ServerId = record { 0 = s } in
      let part = client_at scene r h.together c _ (slice_get-get_or scene.clients c no_client in_clients) in
      let circle = circle_at ops scene r desks old new h c s in_clients in_servers in
      let due_all = sent_within_due tracker id (omega (arith, in_servers, part.desks)) (h.consistent c (omega (arith, in_clients, h.together.trackers))) in
      let small : count (delta_added tracker.client) (get_or r.books s no_book).history ≤ (due tracker.tracker.counting id tracker.events).delta = omega (arith, circle.delta, due_all) in
      rw (
        get_or_from_slice_get r.books s queue no_book at_queue,
        get_or_from_slice_get r.trackers c book no_tracker at_book,
      ) at (within_bound tracker.tracker.counting (count (delta_added tracker.client) (get_or r.books s no_book).history) id tracker.events small)

  -- the report is of these parts
  pub report_of : stops_of new ≡ r.stops → IsReportOf r new
  report_of stops =
      let read : ServerReport T → filled.ServerNumbers T = server_numbers in
      let rows = map read new.servers.items in
      let read_client : ClientReport → ClientNumbers = client_numbers in
      let client_rows = map read_client new.clients.items in
      let rows_long : length rows ≡ length r.books = length-map new.servers.items read ∙ servers_long ∙ sym h.together.books in
      let client_rows_long : length client_rows ≡ length r.trackers = length-map new.clients.items read_client ∙ clients_long ∙ sym h.together.trackers in
      record {
        histories = sym (map-map (λ (n : filled.ServerNumbers T). n.events) read new.servers.items)
            ∙ alike_places (λ (n : filled.ServerNumbers T). n.events) (λ (b : BookState T). b.history) rows r.books no_server_numbers no_book rows_long
            (λ k within. (h.servers k (omega (arith, within, rows_long))).events);
        completed = sym (map-map (λ (n : ClientNumbers). n.completed) read_client new.clients.items)
            ∙ alike_places (λ (n : ClientNumbers). n.completed) (λ (t : tracker_book.BookState). all_responses (length t.desks) t.events) client_rows r.trackers no_client_numbers no_tracker client_rows_long
            (λ k within. (h.clients k (omega (arith, within, client_rows_long))).completed);
        cost = sym (map-map (λ (n : ClientNumbers). n.cost) read_client new.clients.items)
            ∙ alike_places (λ (n : ClientNumbers). n.cost) (λ (t : tracker_book.BookState). (completions t.events).delta) client_rows r.trackers no_client_numbers no_tracker client_rows_long
            (λ k within. (h.clients k (omega (arith, within, client_rows_long))).cost);
        stamps_left = sym (map-map (λ (n : ClientNumbers). n.held) read_client new.clients.items)
            ∙ alike_places (λ (n : ClientNumbers). n.held) stamps_left client_rows r.client_passes no_client_numbers [] (client_rows_long ∙ h.together.trackers ∙ sym h.together.client_passes)
            (λ k within. (h.clients k (omega (arith, within, client_rows_long))).held);
        units_left = sym (map-map (λ (n : filled.ServerNumbers T). n.held) read new.servers.items)
            ∙ alike_places (λ (n : filled.ServerNumbers T). n.held) grants_left rows r.worker_passes no_server_numbers [] (rows_long ∙ h.together.books ∙ sym h.together.worker_passes)
            (λ k within. (h.servers k (omega (arith, within, rows_long))).held);
        stops = stops;
        deltas = bounded;
      }
