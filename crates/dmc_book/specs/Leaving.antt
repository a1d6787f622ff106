-- Workers that leave.
use Rattle.std.specs.Prelude.{◌≡◌, List, slice_index_or, slice_set}
use Rattle.std.specs.List.{AllByRecursion}
use Rattle.dmc_ledger.specs.Bundles.{ClientSide, PhaseHoldings, GrantHoldings}
use Rattle.dmc_book.specs.BookState.{PassState, WorkerSide, no_worker}
use Rattle.dmc_book.specs.Settling.{AreUnitsTakenIn, IsOwn, closed_worker}

-- no grant of a client is with the worker
pub record HoldsNoGrant (tills : PhaseHoldings) : Type 0 where
  pub grants : tills.grants.amount ≡ 0
  pub cost : tills.cost.amount ≡ 0

pub record HoldsNothing (units : GrantHoldings) : Type 0 where
  pub reservation : HoldsNoGrant units.reservation
  pub priority : HoldsNoGrant units.priority

-- the pass is of a worker here, with tills of each desk that the worker reaches, and each of its grants was responded
pub record MayLeave (workers : List WorkerSide) (desks : List ClientSide) (p : PassState) : Type 0 where
  pub own : IsOwn workers desks p
  pub responded : AllByRecursion HoldsNothing p.units

-- the worker's pass is gathered: the worker keeps its counts and reaches no desk, and each desk has gathered its tills
pub record IsGone (workers : List WorkerSide) (desks : List ClientSide) (p : PassState) (new_workers : List WorkerSide) (new_desks : List ClientSide) : Type 0 where
  pub workers_now : new_workers ≡ slice_set workers p.place (closed_worker (slice_index_or workers p.place no_worker))
  pub desks_now : AreUnitsTakenIn p.units desks new_desks
