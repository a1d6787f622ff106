-- How a status is read.
use Rattle.std.specs.Prelude.{◌≡◌, ℕ, ◌+◌, ◌^◌, ◌<◌, ◌≤◌, length, ⊤}
use Rattle.dmc_types.specs.declared.config.Counting.{Counting}
use Rattle.dmc_types.specs.declared.config.Counting.TheVariants.{All, Others}
use Rattle.dmc_types.specs.declared.ids.ServerId.{ServerId}
use Rattle.dmc_tracker.specs.Numbers.{Numbers, ServerNumbers, numbers_at}
use Rattle.dmc_ledger.specs.Accounts.{total_of}
use Rattle.dmc_ledger.specs.Bundles.{ServerSide}
use Rattle.dmc_tlock.specs.declared.status.TrackStatus.{TrackStatus}
use Rattle.dmc_tlock.specs.Consistent.{responded}
use Rattle.dmc_tlock.specs.Status.{pair_of}

-- the sum of what was sent, skipped and is pending
abbrev pub sum_at : ServerNumbers → ℕ
sum_at server = server.sent.delta + server.skipped.delta + server.pending.delta

abbrev pub IsElsewhere : Counting → (completed responded : ℕ) → ServerNumbers → Type 0
IsElsewhere All completed responded server = ⊤
IsElsewhere Others completed responded server = (completed ≤ responded + sum_at server) × (sum_at server < 2 ^ 64)

-- what a status may be read off: the desk's responses are among the completions, and in `Others` those at the other servers are
-- among what is sent, skipped and pending, which is below 2^64
pub record IsReadable (tracker : Numbers) (desk : ServerSide) (s : ServerId) : Type 0 where
  pub within : s.0 < length tracker.servers
  pub all : responded desk ≤ tracker.completions.delta
  pub constraint : desk.held.reservation.cost.amount ≤ tracker.completions.rho
  pub elsewhere : IsElsewhere tracker.counting tracker.completions.delta (responded desk) (numbers_at tracker s)

-- what the stamps count for their own requests is the rest of the sum
abbrev pub IsOwn : Counting → TrackStatus → Type 0
IsOwn All status = status.own ≡ 0
IsOwn Others status = status.own + status.others.0 ≡ status.sent.0 + status.skipped.0 + status.pending.0

-- how a status is read off the tracker and the desk of s, without the list
pub record IsReadOff (tracker : Numbers) (desk : ServerSide) (s : ServerId) (status : TrackStatus) : Type 0 where
  pub sent : status.sent ≡ pair_of (numbers_at tracker s).sent
  pub skipped : status.skipped ≡ pair_of (numbers_at tracker s).skipped
  pub pending : status.pending ≡ pair_of (numbers_at tracker s).pending
  pub completions : status.completions ≡ pair_of tracker.completions
  pub counting : status.counting ≡ tracker.counting
  pub stamps : status.stamps ≡ total_of desk.books.stamps
  pub others_all : status.others.0 + responded desk ≡ tracker.completions.delta
  pub others_constraint : status.others.1 + desk.held.reservation.cost.amount ≡ tracker.completions.rho
  pub own : IsOwn tracker.counting status
