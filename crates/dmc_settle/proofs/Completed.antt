-- All completions of a settled cluster, and all units that are left, are all grants.
use Rattle.std.proofs.Common.{◌≡◌, ℕ, ◌+◌, ◌<◌, List, [], length, map, get_or, sym, ap, ◌∙◌, arith}
use Rattle.std.specs.Prelude.{sum_by}
use Rattle.std.proofs.lemmas.List.{length-map}
use Rattle.std.proofs.lemmas.Option.{slice_get-get_or}
use Rattle.dmc_types.specs.declared.config.PhaseType.{PhaseType}
use Rattle.dmc_types.specs.declared.config.PhaseType.TheVariants.{Reservation, Priority}
use Rattle.dmc_tag.specs.Tag.{Tagging}
use Rattle.dmc_tracker.specs.TrackerList.{responses}
use Rattle.dmc_ledger.specs.Bundles.{ClientSide}
use Rattle.dmc_book.specs.BookState.{no_desk}
use Rattle.dmc_book.specs.Counts.{count, grants_added, phase_grants}
use Rattle.dmc_book.specs.Settling.{left_in}
use Rattle.dmc_scene.specs.SceneValue.{SceneValue}
use Rattle.dmc_settle.specs.internal.Filled as filled
use Rattle.dmc_settle.specs.internal.Filled.{ClientNumbers, client_numbers, no_client_numbers, no_server_numbers, server_numbers}
use Rattle.dmc_settle.specs.internal.Places.{no_book, no_tracker}
use Rattle.dmc_settle.specs.Left.{Left}
use Rattle.dmc_settle.specs.Reports.{IsReport, all_responses, units_left}
use Rattle.dmc_settle.specs.declared.report.UnitsHeld.{UnitsHeld}
use Rattle.dmc_settle.specs.declared.report.ClientReport.{ClientReport}
use Rattle.dmc_settle.specs.declared.report.ServerReport.{ServerReport}
use Rattle.dmc_settle.specs.declared.report.ClusterReport.{ClusterReport}
use Rattle.dmc_settle.proofs.Balance.{sum_seen}
use Rattle.dmc_settle.proofs.Circles.{IsSettledCluster, circle_at, its_desk, its_tracker}
use Rattle.dmc_settle.proofs.Granted.{left_at_all}
use Rattle.dmc_settle.proofs.Ready.{client_at, desks_long, no_client, server_at}
use Rattle.dmc_settle.proofs.Reported.{client_report, clients_long, server_report, servers_long}
use Rattle.dmc_settle.proofs.Sums.{sum_to, sum_places, same_sum, sum_plus, sum_grid, sum_range}

module _ {T : Type 0} (ops : Tagging T) (scene : SceneValue) (r : Left T) (desks : List (List ClientSide)) (old new : ClusterReport T)
    (h : IsSettledCluster ops scene r desks old new) where
  -- of a client and a server: the responses, the units that are left, and the grants, of both phases
  abbrev answered : ℕ → ℕ → ℕ
  answered s c = responses (record { 0 = s }) Reservation (get_or r.trackers c no_tracker).events + responses (record { 0 = s }) Priority (get_or r.trackers c no_tracker).events

  abbrev left : ℕ → ℕ → ℕ
  left s c = (left_in Reservation c (get_or r.worker_passes s [])).grants + (left_in Priority c (get_or r.worker_passes s [])).grants

  abbrev granted_in : PhaseType → ℕ → ℕ → ℕ
  granted_in phase s c = count (grants_added (get_or (get_or r.books s no_book).desks c no_desk).client phase) (get_or r.books s no_book).history

  abbrev granted : ℕ → ℕ → ℕ
  granted s c = granted_in Reservation s c + granted_in Priority s c

  one_pair : (s c : ℕ) → s < scene.servers → c < length scene.clients → answered s c + left s c ≡ granted s c
  one_pair s c in_servers in_clients =
      let book = get_or r.books s no_book in
      let at = slice_get-get_or scene.clients c no_client in_clients in
      let circle = circle_at ops scene r desks old new h c s in_clients in_servers in
      let same : (get_or book.desks c no_desk).client ≡ (get_or r.trackers c no_tracker).client =
      its_desk ops scene r desks old new h c s _ in_servers at ∙ sym (its_tracker ops scene r desks old new h c _ at) in
      let reservations = ap (λ n. count (grants_added n Reservation) book.history) same in
      let priorities = ap (λ n. count (grants_added n Priority) book.history) same in
      omega (arith, circle.reservation.grants, circle.priority.grants, reservations, priorities)

  -- a client's responses are those at each server
  completed_at : (c : ℕ) → c < length scene.clients
      → all_responses (length (get_or r.trackers c no_tracker).desks) (get_or r.trackers c no_tracker).events ≡ sum_to scene.servers (λ s. answered s c)
  completed_at c in_clients =
      let tracker = get_or r.trackers c no_tracker in
      let part = client_at scene r h.together c _ (slice_get-get_or scene.clients c no_client in_clients) in
      ap (λ n. all_responses n tracker.events) part.desks ∙ sum_range (λ s. answered s c) scene.servers

  completed_is : sum_by (λ c. c.completed) new.clients.items ≡ sum_to scene.servers (λ s. sum_to (length scene.clients) (λ c. answered s c))
  completed_is =
      let read : ClientReport → ClientNumbers = client_numbers in
      let rows = map read new.clients.items in
      let long : length rows ≡ length scene.clients = length-map new.clients.items read ∙ clients_long ops scene r desks old new h in
      sym (sum_seen (λ (n : ClientNumbers). n.completed) read new.clients.items) ∙ sum_places (λ (n : ClientNumbers). n.completed) rows no_client_numbers
      ∙ ap (λ n. sum_to n (λ c. (get_or rows c no_client_numbers).completed)) long
      ∙ same_sum (length scene.clients) (λ c. (get_or rows c no_client_numbers).completed) (λ c. sum_to scene.servers (λ s. answered s c))
      (λ c within. (h.clients c (omega (arith, within, h.together.trackers))).completed ∙ completed_at c within)
      ∙ sym (sum_grid scene.servers (length scene.clients) answered)

  -- what is left of a server's grants, and these, are those of each client
  left_at : (s : ℕ) → s < scene.servers → units_left Reservation (get_or r.worker_passes s []) + units_left Priority (get_or r.worker_passes s []) ≡ sum_to (length scene.clients) (λ c. left s c)
  left_at s in_servers =
      let book = get_or r.books s no_book in
      let passes = get_or r.worker_passes s [] in
      let part = server_at scene r h.together s in_servers in
      let long = desks_long scene r h.together s in_servers in
      let of_phase = (λ (phase : PhaseType). sym (left_at_all phase book.workers book.desks passes part.own.each) ∙ ap (λ n. sum_to n (λ c. (left_in phase c passes).grants)) long) in
      let both = sum_plus (length scene.clients) (λ c. (left_in Reservation c passes).grants) (λ c. (left_in Priority c passes).grants) in
      omega (arith, of_phase Reservation, of_phase Priority, both)

  granted_at : (s : ℕ) → s < scene.servers
      → count (phase_grants Reservation) (get_or r.books s no_book).history + count (phase_grants Priority) (get_or r.books s no_book).history ≡ sum_to (length scene.clients) (λ c. granted s c)
  granted_at s in_servers =
      let book = get_or r.books s no_book in
      let numbers = h.servers s (omega (arith, in_servers, h.together.books)) in
      let long = desks_long scene r h.together s in_servers in
      let of_phase = (λ (phase : PhaseType). sym (numbers.of_desks phase) ∙ sum_places (λ (d : ClientSide). count (grants_added d.client phase) book.history) book.desks no_desk
      ∙ ap (λ n. sum_to n (λ c. granted_in phase s c)) long) in
      let both = sum_plus (length scene.clients) (λ c. granted_in Reservation s c) (λ c. granted_in Priority s c) in
      omega (arith, of_phase Reservation, of_phase Priority, both)

  rows_sum : (f : filled.ServerNumbers T → ℕ) (g : ℕ → ℕ) → ((s : ℕ) → s < scene.servers → f (get_or (map server_numbers new.servers.items) s no_server_numbers) ≡ g s)
      → sum_by (λ s. f (server_numbers s)) new.servers.items ≡ sum_to scene.servers g
  rows_sum f g each =
      let read : ServerReport T → filled.ServerNumbers T = server_numbers in
      let rows = map read new.servers.items in
      let long : length rows ≡ scene.servers = length-map new.servers.items read ∙ servers_long ops scene r desks old new h in
      sym (sum_seen f read new.servers.items) ∙ sum_places f rows no_server_numbers ∙ ap (λ n. sum_to n (λ s. f (get_or rows s no_server_numbers))) long
      ∙ same_sum scene.servers (λ s. f (get_or rows s no_server_numbers)) g each

  left_is : sum_by (λ s. s.held.reservation + s.held.priority) new.servers.items ≡ sum_to scene.servers (λ s. sum_to (length scene.clients) (λ c. left s c))
  left_is =
      rows_sum (λ n. n.held.reservation + n.held.priority) (λ s. sum_to (length scene.clients) (λ c. left s c))
      (λ s within. ap (λ (x : UnitsHeld). x.reservation + x.priority) (h.servers s (omega (arith, within, h.together.books))).held ∙ left_at s within)

  granted_is : sum_by (λ s. s.reservation + s.priority) new.servers.items ≡ sum_to scene.servers (λ s. sum_to (length scene.clients) (λ c. granted s c))
  granted_is =
      rows_sum (λ n. n.reservation + n.priority) (λ s. sum_to (length scene.clients) (λ c. granted s c))
      (λ s within. (let n = h.servers s (omega (arith, within, h.together.books)) in let all = granted_at s within in omega (arith, n.reservation, n.priority, all)))

  all_pairs : sum_to scene.servers (λ s. sum_to (length scene.clients) (λ c. answered s c)) + sum_to scene.servers (λ s. sum_to (length scene.clients) (λ c. left s c))
      ≡ sum_to scene.servers (λ s. sum_to (length scene.clients) (λ c. granted s c))
  all_pairs =
      sym (sum_plus scene.servers (λ s. sum_to (length scene.clients) (λ c. answered s c)) (λ s. sum_to (length scene.clients) (λ c. left s c)))
      ∙ same_sum scene.servers (λ s. sum_to (length scene.clients) (λ c. answered s c) + sum_to (length scene.clients) (λ c. left s c)) (λ s. sum_to (length scene.clients) (λ c. granted s c))
      (λ s in_servers. sym (sum_plus (length scene.clients) (λ c. answered s c) (λ c. left s c))
      ∙ same_sum (length scene.clients) (λ c. answered s c + left s c) (λ c. granted s c) (λ c in_clients. one_pair s c in_servers in_clients))

  pub report : IsReport ops scene new
  report = record {
    as_many_servers = servers_long ops scene r desks old new h;
    as_many_clients = clients_long ops scene r desks old new h;
    servers = λ k s at. server_report ops scene r desks old new h k s at;
    clients = λ k client c at at_row. client_report ops scene r desks old new h k client c at at_row;
    completed = omega (arith, completed_is, left_is, granted_is, all_pairs);
  }
