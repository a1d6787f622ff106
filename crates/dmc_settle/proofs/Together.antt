-- The parts of one cluster, place by place.
use Rattle.std.proofs.Common.{◌≡◌, ◌<◌, List, [], Some, get_or, map, slice_get, sym, subst, arith}
use Rattle.std.specs.Global.{Vec}
use Rattle.std.proofs.lemmas.Simd.{map-map}
use Rattle.std.proofs.lemmas.Option.{get_or_from_slice_get, slice_get-get_or, slice_get_within}
use Rattle.dmc_ledger.specs.Bundles.{StampHoldings}
use Rattle.dmc_tlock.specs.BookState as tracker_book
use Rattle.dmc_book.specs.BookState.{BookState, PassState, pass_state}
use Rattle.dmc_book.specs.declared.pass.WorkerPass.{WorkerPass}
use Rattle.dmc_scene.specs.SceneValue.{SceneValue}
use Rattle.dmc_settle.specs.internal.Checks.{AreServerParts, AreClientParts, ArePairs}
use Rattle.dmc_settle.specs.internal.Places.{no_book, no_tracker, pass_states}
use Rattle.dmc_settle.specs.Left.{AreTogether, IsClientPart, IsServerPart, Left}

-- each server's passes, as they are seen
pub passes_seen : {S : Type 0} (workers : List (Vec (WorkerPass S))) → map (map pass_state) (map (λ v. v.items) workers) ≡ map pass_states workers
passes_seen {S} workers =
    let f : List (WorkerPass S) → List PassState = map pass_state in
    let items : Vec (WorkerPass S) → List (WorkerPass S) = (λ v. v.items) in
    map-map f items workers

module _ {T : Type 0} (scene : SceneValue) (r : Left T) where
  pub together_of : AreServerParts scene r.books r.worker_passes → AreClientParts scene r.trackers r.client_passes → ArePairs r.books r.trackers → AreTogether scene r
  together_of servers clients pairs = record {
    books = servers.a_book_each;
    worker_passes = servers.passes_each;
    trackers = clients.a_book_each;
    client_passes = clients.a_pass_each;
    servers = λ s book passes at_book at_passes.
        (let within : s < scene.servers = (let i = slice_get_within r.books s book at_book in omega (arith, i, servers.a_book_each)) in
        subst (λ (b : BookState T). IsServerPart scene s b passes) (get_or_from_slice_get r.books s book no_book at_book)
        (subst (λ (p : List PassState). IsServerPart scene s (get_or r.books s no_book) p) (get_or_from_slice_get r.worker_passes s passes [] at_passes) (servers.each s within)));
    clients = λ c client book pass at_client at_book at_pass.
        subst (λ (b : tracker_book.BookState). IsClientPart scene client b pass) (get_or_from_slice_get r.trackers c book no_tracker at_book)
        (subst (λ (p : List StampHoldings). IsClientPart scene client (get_or r.trackers c no_tracker) p) (get_or_from_slice_get r.client_passes c pass [] at_pass) (clients.each c client at_client));
    pairs = λ c s queue book d t at_queue at_desk at_book at_side.
        pairs c (slice_get_within r.trackers c book at_book) s (slice_get_within r.books s queue at_queue) d t
        (subst (λ (b : BookState T). slice_get b.desks c ≡ Some d) (sym (get_or_from_slice_get r.books s queue no_book at_queue)) at_desk)
        (subst (λ (b : tracker_book.BookState). slice_get b.desks s ≡ Some t) (sym (get_or_from_slice_get r.trackers c book no_tracker at_book)) at_side);
  }

  module _ (h : AreTogether scene r) where
    pub servers_of : AreServerParts scene r.books r.worker_passes
    servers_of = record {
      a_book_each = h.books;
      passes_each = h.worker_passes;
      each = λ s within. h.servers s _ _ (slice_get-get_or r.books s no_book (omega (arith, within, h.books))) (slice_get-get_or r.worker_passes s [] (omega (arith, within, h.worker_passes)));
    }

    pub clients_of : AreClientParts scene r.trackers r.client_passes
    clients_of = record {
      a_book_each = h.trackers;
      a_pass_each = h.client_passes;
      each = λ c client at.
          (let within = slice_get_within scene.clients c client at in
          h.clients c client _ _ at (slice_get-get_or r.trackers c no_tracker (omega (arith, within, h.trackers))) (slice_get-get_or r.client_passes c [] (omega (arith, within, h.client_passes))));
    }

    pub pairs_of : ArePairs r.books r.trackers
    pairs_of = λ c in_trackers s in_books d t at_desk at_side.
        h.pairs c s _ _ d t (slice_get-get_or r.books s no_book in_books) at_desk (slice_get-get_or r.trackers c no_tracker in_trackers) at_side
