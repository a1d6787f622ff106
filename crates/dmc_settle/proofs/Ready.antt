-- Parts of one cluster are ready to be settled: the servers' first, then the clients'.
use Rattle.std.proofs.Common.{◌≡◌, ℕ, ◌<◌, ◌≤◌, List, [], Some, None, length, get_or, slice_get, sym, ap, ◌∙◌, arith}
use Rattle.std.proofs.lemmas.Option.{slice_get-get_or, slice_get_within}
use Rattle.dmc_types.specs.declared.config.PhaseType.{PhaseType}
use Rattle.dmc_ledger.specs.Bundles.{ClientSide, ServerSide, PhaseAccounts, PhaseHoldings}
use Rattle.dmc_tlock.specs.BookState.{no_side}
use Rattle.dmc_book.specs.BookState.{no_desk}
use Rattle.dmc_book.specs.Settling.{AreSettledDesks, IsSettledDesk, IsSettledPhase}
use Rattle.dmc_book.specs.declared.settled.Amounts.{Amounts}
use Rattle.dmc_book.specs.BookState.{PassState}
use Rattle.dmc_tag.specs.declared.event.Event.{Event}
use Rattle.dmc_scene.specs.SceneValue.{SceneValue, ClientValue}
use Rattle.dmc_settle.specs.internal.Filled.{IsLastPair, IsLastPhase, IsReadyClient, IsReadyServer}
use Rattle.dmc_settle.specs.internal.Places.{desk_of, no_book, no_tracker}
use Rattle.dmc_settle.specs.Left.{AreTogether, ArePaired, ArePhaseTillsOf, IsServerPart, IsClientPart, Left}
use Rattle.dmc_settle.proofs.Lists.{alike_long}

abbrev pub no_client : ClientValue
no_client = record { id = record { 0 = 0 }; info = record { reservation = None; weight = 0; limit = None }; requests = 0; window = 0; costs = None }

-- the books of a phase, once their server's passes are gathered
module _ {T : Type 0} {client : ℕ} {phase : PhaseType} {history : List (Event T)} {left : Amounts} where
  phase_tills_of : (tills : PhaseHoldings) (old new : PhaseAccounts) → ArePhaseTillsOf tills old → IsSettledPhase client phase history left old new
      → ArePhaseTillsOf tills new
  phase_tills_of tills old new h now = record { grants = h.grants ∙ sym now.grants.number; cost = h.cost ∙ sym now.cost.number }

  last_phase : (tills : PhaseHoldings) (old new : PhaseAccounts) → ArePhaseTillsOf tills old → IsSettledPhase client phase history left old new
      → IsLastPhase new tills
  last_phase tills old new h now = record { tills_of = phase_tills_of tills old new h now; grants = now.grants.open_tills; cost = now.cost.open_tills }

module _ {T : Type 0} (scene : SceneValue) (r : Left T) (h : AreTogether scene r) where
  pub server_at : (s : ℕ) → s < scene.servers → IsServerPart scene s (get_or r.books s no_book) (get_or r.worker_passes s [])
  server_at s within = h.servers s _ _ (slice_get-get_or r.books s no_book (omega (arith, within, h.books))) (slice_get-get_or r.worker_passes s [] (omega (arith, within, h.worker_passes)))

  pub client_at : (c : ℕ) (client : ClientValue) → slice_get scene.clients c ≡ Some client → IsClientPart scene client (get_or r.trackers c no_tracker) (get_or r.client_passes c [])
  client_at c client at =
      let within = slice_get_within scene.clients c client at in
      h.clients c client _ _ at (slice_get-get_or r.trackers c no_tracker (omega (arith, within, h.trackers))) (slice_get-get_or r.client_passes c [] (omega (arith, within, h.client_passes)))

  pub desks_long : (s : ℕ) → s < scene.servers → length (get_or r.books s no_book).desks ≡ length scene.clients
  desks_long s within = alike_long (λ (d : ClientSide). d.client) (λ (c : ClientValue). c.id.0) (get_or r.books s no_book).desks scene.clients (server_at s within).desks

  pub ready_servers : length scene.clients ≤ 256 → (s : ℕ) → s < length r.books → IsReadyServer (get_or r.books s no_book) (get_or r.worker_passes s [])
  ready_servers few s within =
      let in_servers : s < scene.servers = omega (arith, within, h.books) in
      record { own = (server_at s in_servers).own; whole = (server_at s in_servers).whole; few = omega (arith, few, desks_long s in_servers) }

  -- the desk of a pair, once its server's passes are gathered
  last_settled : (history : List (Event T)) (passes : List PassState) (c : ℕ) (old new : ClientSide) (t : ServerSide) → IsSettledDesk history passes c old new → ArePaired old t → IsLastPair new t
  last_settled history passes c old new t now p = record {
    paired = record {
      stamps = ap (λ (x : ClientSide). x.held.stamps.number) now.its ∙ p.stamps;
      delta = ap (λ (x : ClientSide). x.held.delta.number) now.its ∙ p.delta;
      rho = ap (λ (x : ClientSide). x.held.rho.number) now.its ∙ p.rho;
      reservation = phase_tills_of t.held.reservation old.books.reservation new.books.reservation p.reservation now.reservations;
      priority = phase_tills_of t.held.priority old.books.priority new.books.priority p.priority now.priorities;
    };
    reservation = last_phase t.held.reservation old.books.reservation new.books.reservation p.reservation now.reservations;
    priority = last_phase t.held.priority old.books.priority new.books.priority p.priority now.priorities;
  }

  pub ready_clients : (desks : List (List ClientSide)) → length desks ≡ length r.books
      → ((s : ℕ) → s < length r.books → AreSettledDesks (get_or r.books s no_book).history (get_or r.worker_passes s []) (get_or r.books s no_book).desks (get_or desks s []))
      → (c : ℕ) → c < length r.trackers → IsReadyClient desks c (get_or r.trackers c no_tracker) (get_or r.client_passes c [])
  ready_clients desks desks_each settled c within =
      let in_clients : c < length scene.clients = omega (arith, within, h.trackers) in
      let part = client_at c _ (slice_get-get_or scene.clients c no_client in_clients) in
      record {
        own = part.own;
        whole = part.whole;
        as_many = part.desks ∙ sym h.books ∙ sym desks_each;
        within = λ s in_desks. (
            let in_servers : s < scene.servers = omega (arith, in_desks, desks_each, h.books) in
            let now = settled s (omega (arith, in_desks, desks_each)) in
            omega (arith, now.as_many, desks_long s in_servers, in_clients));
        pairs = λ s in_desks. (
            let in_books : s < length r.books = omega (arith, in_desks, desks_each) in
            let in_servers : s < scene.servers = omega (arith, in_desks, desks_each, h.books) in
            let in_row : c < length (get_or r.books s no_book).desks = omega (arith, in_clients, desks_long s in_servers) in
            let in_sides : s < length (get_or r.trackers c no_tracker).desks = omega (arith, in_servers, part.desks) in
            last_settled (get_or r.books s no_book).history (get_or r.worker_passes s []) c (get_or (get_or r.books s no_book).desks c no_desk) (desk_of desks s c)
            (get_or (get_or r.trackers c no_tracker).desks s no_side) ((settled s in_books).each c in_row)
            (h.pairs c s _ _ _ _ (slice_get-get_or r.books s no_book in_books) (slice_get-get_or (get_or r.books s no_book).desks c no_desk in_row)
            (slice_get-get_or r.trackers c no_tracker within) (slice_get-get_or (get_or r.trackers c no_tracker).desks s no_side in_sides)));
      }
