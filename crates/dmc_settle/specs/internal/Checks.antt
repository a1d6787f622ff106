-- That the parts are those of one cluster, place by place.
use Rattle.std.specs.Prelude.{◌≡◌, ℕ, ◌<◌, List, [], length, Some, slice_get, slice_index_or}
use Rattle.dmc_ledger.specs.Bundles.{ClientSide, ServerSide, StampHoldings}
use Rattle.dmc_tlock.specs.BookState as tracker_book
use Rattle.dmc_book.specs.BookState.{BookState, PassState}
use Rattle.dmc_scene.specs.SceneValue.{SceneValue, ClientValue}
use Rattle.dmc_settle.specs.internal.Places.{no_book, no_tracker}
use Rattle.dmc_settle.specs.Left.{ArePaired, IsServerPart, IsClientPart}

-- each server's book and passes
pub record AreServerParts {T : Type 0} (scene : SceneValue) (books : List (BookState T)) (passes : List (List PassState)) : Type 0 where
  pub a_book_each : length books ≡ scene.servers
  pub passes_each : length passes ≡ scene.servers
  pub each : (s : ℕ) → s < scene.servers → IsServerPart scene s (slice_index_or books s no_book) (slice_index_or passes s [])

-- each client's tracker book and pass
pub record AreClientParts (scene : SceneValue) (trackers : List tracker_book.BookState) (passes : List (List StampHoldings)) : Type 0 where
  pub a_book_each : length trackers ≡ length scene.clients
  pub a_pass_each : length passes ≡ length scene.clients
  pub each : (c : ℕ) (client : ClientValue) → slice_get scene.clients c ≡ Some client
      → IsClientPart scene client (slice_index_or trackers c no_tracker) (slice_index_or passes c [])

-- if both have a desk, these are of one pair
abbrev pub IsPairAt : ℕ → ℕ → List ClientSide → List ServerSide → Type 0
IsPairAt c s desks sides = (d : ClientSide) (t : ServerSide) → slice_get desks c ≡ Some d → slice_get sides s ≡ Some t → ArePaired d t

-- of a client, at each server
abbrev pub ArePairsOf : {T : Type 0} → ℕ → List (BookState T) → tracker_book.BookState → Type 0
ArePairsOf c books tracker = (s : ℕ) → s < length books → IsPairAt c s (slice_index_or books s no_book).desks tracker.desks

-- of each client
abbrev pub ArePairs : {T : Type 0} → List (BookState T) → List tracker_book.BookState → Type 0
ArePairs books trackers = (c : ℕ) → c < length trackers → ArePairsOf c books (slice_index_or trackers c no_tracker)
