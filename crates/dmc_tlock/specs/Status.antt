-- What `status` returns.
use Rattle.std.specs.Prelude.{◌≡◌, ℕ, ◌+◌, ◌≤◌, List}
use Rattle.dmc_types.specs.Values.{Counts}
use Rattle.dmc_types.specs.declared.ids.ServerId.{ServerId}
use Rattle.dmc_types.specs.declared.config.Counting.{Counting}
use Rattle.dmc_types.specs.declared.config.Counting.TheVariants.{All, Others}
use Rattle.dmc_tracker.specs.declared.event.TrackerEvent.{TrackerEvent}
use Rattle.dmc_tracker.specs.TrackerList.{others, stamps, stamp_costs}
use Rattle.dmc_tracker.specs.Numbers.{numbers_at}
use Rattle.dmc_ledger.specs.Bundles.{StampHoldings}
use Rattle.dmc_tlock.specs.BookState.{BookState}
use Rattle.dmc_tlock.specs.declared.status.TrackStatus.{TrackStatus}

abbrev pub pair_of : Counts → ℕ × ℕ
pair_of counts = (counts.delta, counts.rho)

-- what the stamps to s count for their own requests: in `Others` what these cost
abbrev pub own_costs : Counting → ServerId → List TrackerEvent → ℕ
own_costs All s events = 0
own_costs Others s events = stamp_costs s events

-- the numbers of the tracker and of its list, seen from s
pub record IsStatusOf (b : BookState) (s : ServerId) (status : TrackStatus) : Type 0 where
  pub sent : status.sent ≡ pair_of (numbers_at b.tracker s).sent
  pub skipped : status.skipped ≡ pair_of (numbers_at b.tracker s).skipped
  pub pending : status.pending ≡ pair_of (numbers_at b.tracker s).pending
  pub completions : status.completions ≡ pair_of b.tracker.completions
  pub counting : status.counting ≡ b.tracker.counting
  pub stamps : status.stamps ≡ stamps s b.events
  pub own : status.own ≡ own_costs b.tracker.counting s b.events
  pub others : status.others ≡ pair_of (others s b.events)

-- the tills hold no more than was sent
pub record IsWithin (tills : StampHoldings) (status : TrackStatus) : Type 0 where
  pub stamps : tills.stamps.amount ≤ status.stamps
  pub delta : tills.delta.amount ≤ status.sent.0
  pub rho : tills.rho.amount ≤ status.sent.1

-- what is due by these numbers, in each counting form
abbrev pub due_by : TrackStatus → Counting → ℕ × ℕ
due_by status All = status.completions
due_by status Others = (status.own + status.others.0, status.own + status.others.1)

-- the two sums: sent plus skipped plus pending is what is due, in the form that the status names
pub record AreSums (status : TrackStatus) : Type 0 where
  pub all : status.sent.0 + status.skipped.0 + status.pending.0 ≡ (due_by status status.counting).0
  pub constraint : status.sent.1 + status.skipped.1 + status.pending.1 ≡ (due_by status status.counting).1
