-- A cluster that is settled, and its circle.
use Rattle.std.proofs.Common.{◌≡◌, ℕ, ◌<◌, List, [], Some, length, map, get_or, slice_get, sym, ap, ◌∙◌, arith}
use Rattle.std.proofs.lemmas.Option.{get_or_from_slice_get, slice_get-get_or, slice_get_within}
use Rattle.dmc_types.specs.declared.config.PhaseType.TheVariants.{Reservation, Priority}
use Rattle.dmc_tag.specs.Tag.{Tagging}
use Rattle.dmc_ledger.specs.Bundles.{ClientSide}
use Rattle.dmc_tlock.specs.BookState.{tills_at}
use Rattle.dmc_tlock.specs.Consistent.{IsConsistent}
use Rattle.dmc_book.specs.BookState.{no_desk}
use Rattle.dmc_book.specs.Counts.{count, stamps_added, delta_added, rho_added, grants_added, costs_added}
use Rattle.dmc_book.specs.Settling.{AreSettledDesks, left_in}
use Rattle.dmc_scene.specs.SceneValue.{SceneValue, ClientValue}
use Rattle.dmc_settle.specs.Circle.{AreCircles, IsCircle}
use Rattle.dmc_settle.specs.internal.Filled.{AreBalanced, AreClientNumbers, AreServerNumbers, client_numbers, no_client_numbers, no_server_numbers, server_numbers}
use Rattle.dmc_settle.specs.internal.Places.{no_book, no_tracker}
use Rattle.dmc_settle.specs.Left.{AreTogether, Left}
use Rattle.dmc_settle.specs.Reports.{AreRows}
use Rattle.dmc_settle.specs.declared.report.ClusterReport.{ClusterReport}
use Rattle.dmc_settle.proofs.Lists.{alike_at}
use Rattle.dmc_settle.proofs.Ready.{client_at, desks_long, no_client, server_at}

-- what the two walks leave: over the servers' books, and over the clients' tracker books
pub record IsSettledCluster {T : Type 0} (ops : Tagging T) (scene : SceneValue) (r : Left T) (desks : List (List ClientSide)) (old new : ClusterReport T) : Type 0 where
  pub together : AreTogether scene r
  pub rows : AreRows scene old
  pub desks_each : length desks ≡ length r.books
  pub settled : (s : ℕ) → s < length r.books
      → AreSettledDesks (get_or r.books s no_book).history (get_or r.worker_passes s []) (get_or r.books s no_book).desks (get_or desks s [])
  pub servers : (s : ℕ) → s < length r.books
      → AreServerNumbers ops (get_or r.books s no_book) (get_or r.worker_passes s []) (get_or (map server_numbers new.servers.items) s no_server_numbers)
  pub clients : (c : ℕ) → c < length r.trackers
      → AreClientNumbers desks c (get_or r.trackers c no_tracker) (get_or r.client_passes c []) (get_or (map client_numbers new.clients.items) c no_client_numbers)
  pub balanced : (c : ℕ) → c < length r.trackers → AreBalanced desks c (get_or r.trackers c no_tracker) (get_or r.client_passes c [])
  pub consistent : (c : ℕ) → c < length r.trackers → IsConsistent (get_or r.trackers c no_tracker)
  pub same_servers : map (λ s. s.server) new.servers.items ≡ map (λ s. s.server) old.servers.items
  pub same_clients : map (λ c. c.client) new.clients.items ≡ map (λ c. c.client) old.clients.items

module _ {T : Type 0} (ops : Tagging T) (scene : SceneValue) (r : Left T) (desks : List (List ClientSide)) (old new : ClusterReport T)
    (h : IsSettledCluster ops scene r desks old new) where
  -- the desk is the client's
  pub its_desk : (c s : ℕ) (client : ClientValue) → s < scene.servers → slice_get scene.clients c ≡ Some client → (get_or (get_or r.books s no_book).desks c no_desk).client ≡ client.id.0
  its_desk c s client within at =
      let part = server_at scene r h.together s within in
      let in_clients = slice_get_within scene.clients c client at in
      alike_at (λ (d : ClientSide). d.client) (λ (x : ClientValue). x.id.0) (get_or r.books s no_book).desks scene.clients c no_desk client
      (omega (arith, in_clients, desks_long scene r h.together s within)) in_clients part.desks ∙ ap (λ (x : ClientValue). x.id.0) (get_or_from_slice_get scene.clients c client client at)

  pub its_tracker : (c : ℕ) (client : ClientValue) → slice_get scene.clients c ≡ Some client → (get_or r.trackers c no_tracker).client ≡ client.id.0
  its_tracker c client at = (client_at scene r h.together c client at).its_client

  pub circle_at : (c s : ℕ) → c < length scene.clients → s < scene.servers
      → IsCircle (get_or r.trackers c no_tracker).client (record { 0 = s }) (get_or r.books s no_book).history (get_or r.trackers c no_tracker).events
      (tills_at (get_or r.client_passes c []) (record { 0 = s })) (left_in Reservation c (get_or r.worker_passes s [])) (left_in Priority c (get_or r.worker_passes s []))
  circle_at c s in_clients in_servers =
      let book = get_or r.books s no_book in
      let client = get_or scene.clients c no_client in
      let at = slice_get-get_or scene.clients c no_client in_clients in
      let same : (get_or book.desks c no_desk).client ≡ (get_or r.trackers c no_tracker).client = its_desk c s client in_servers at ∙ sym (its_tracker c client at) in
      let d = (h.settled s (omega (arith, in_servers, h.together.books))).each c (omega (arith, in_clients, desks_long scene r h.together s in_servers)) in
      let pair = h.balanced c (omega (arith, in_clients, h.together.trackers)) s (omega (arith, in_servers, h.desks_each, h.together.books)) in
      record {
        stamps = (let e = d.stamps ∙ ap (λ n. count (stamps_added n) book.history) same in omega (arith, e, pair.stamps));
        delta = (let e = d.delta ∙ ap (λ n. count (delta_added n) book.history) same in omega (arith, e, pair.delta));
        rho = (let e = d.rho ∙ ap (λ n. count (rho_added n) book.history) same in omega (arith, e, pair.rho));
        reservation = record {
          grants = (let e = d.reservations.grants.total ∙ ap (λ n. count (grants_added n Reservation) book.history) same in omega (arith, e, d.reservations.grants.gathered, pair.reservation.grants));
          cost = (let e = d.reservations.cost.total ∙ ap (λ n. count (costs_added n Reservation) book.history) same in omega (arith, e, d.reservations.cost.gathered, pair.reservation.cost));
        };
        priority = record {
          grants = (let e = d.priorities.grants.total ∙ ap (λ n. count (grants_added n Priority) book.history) same in omega (arith, e, d.priorities.grants.gathered, pair.priority.grants));
          cost = (let e = d.priorities.cost.total ∙ ap (λ n. count (costs_added n Priority) book.history) same in omega (arith, e, d.priorities.cost.gathered, pair.priority.cost));
        };
      }

  pub circles : AreCircles r
  circles c s queue passes book pass at_queue at_passes at_book at_pass =
      let in_clients : c < length scene.clients = (let w = slice_get_within r.trackers c book at_book in omega (arith, w, h.together.trackers)) in
      let in_servers : s < scene.servers = (let w = slice_get_within r.books s queue at_queue in omega (arith, w, h.together.books)) in
      rw (
        get_or_from_slice_get r.books s queue no_book at_queue,
        get_or_from_slice_get r.worker_passes s passes [] at_passes,
        get_or_from_slice_get r.trackers c book no_tracker at_book,
        get_or_from_slice_get r.client_passes c pass [] at_pass,
      ) at (circle_at c s in_clients in_servers)
