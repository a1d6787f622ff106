-- The circle: what a server's queue and a client's tracker say of each other.
use Rattle.std.specs.Prelude.{◌≡◌, ℕ, ◌+◌, List, Some, slice_get}
use Rattle.dmc_types.specs.declared.ids.ServerId.{ServerId}
use Rattle.dmc_types.specs.declared.config.PhaseType.{PhaseType}
use Rattle.dmc_types.specs.declared.config.PhaseType.TheVariants.{Reservation, Priority}
use Rattle.dmc_tag.specs.declared.event.Event.{Event}
use Rattle.dmc_tracker.specs.declared.event.TrackerEvent.{TrackerEvent}
use Rattle.dmc_tracker.specs.TrackerList.{stamps, sent, responses, response_costs}
use Rattle.dmc_ledger.specs.Bundles.{StampHoldings}
use Rattle.dmc_tlock.specs.BookState as tracker_book
use Rattle.dmc_tlock.specs.BookState.{tills_at}
use Rattle.dmc_book.specs.BookState.{BookState, PassState}
use Rattle.dmc_book.specs.Counts.{count, stamps_added, delta_added, rho_added, grants_added, costs_added}
use Rattle.dmc_book.specs.declared.settled.Amounts.{Amounts}
use Rattle.dmc_book.specs.Settling.{left_in}
use Rattle.dmc_settle.specs.Left.{Left}

-- Of a client and a server s, in a phase: the responses that were counted plus what is still outstanding was granted, in number
-- and in cost.
pub record IsPhaseCircle {T : Type 0} (client : ℕ) (s : ServerId) (phase : PhaseType) (history : List (Event T)) (events : List TrackerEvent)
    (left : Amounts) : Type 0 where
  pub grants : responses s phase events + left.grants ≡ count (grants_added client phase) history
  pub cost : response_costs s phase events + left.cost ≡ count (costs_added client phase) history

-- Of a client and a server s: what was accepted plus what is still in the client's tills was stamped, and what was counted plus
-- what is still outstanding was granted.
pub record IsCircle {T : Type 0} (client : ℕ) (s : ServerId) (history : List (Event T)) (events : List TrackerEvent)
    (tills : StampHoldings) (reservations priorities : Amounts) : Type 0 where
  pub stamps : count (stamps_added client) history + tills.stamps.amount ≡ stamps s events
  pub delta : count (delta_added client) history + tills.delta.amount ≡ (sent s events).delta
  pub rho : count (rho_added client) history + tills.rho.amount ≡ (sent s events).rho
  pub reservation : IsPhaseCircle client s Reservation history events reservations
  pub priority : IsPhaseCircle client s Priority history events priorities

-- of each client and each server
abbrev pub AreCircles : {T : Type 0} → Left T → Type 0
AreCircles {T} r = (c s : ℕ) (queue : BookState T) (passes : List PassState) (book : tracker_book.BookState) (pass : List StampHoldings)
    → slice_get r.books s ≡ Some queue → slice_get r.worker_passes s ≡ Some passes
    → slice_get r.trackers c ≡ Some book → slice_get r.client_passes c ≡ Some pass
    → IsCircle book.client (record { 0 = s }) queue.history book.events (tills_at pass (record { 0 = s }))
    (left_in Reservation c passes) (left_in Priority c passes)
