-- What `status` returns.
use Rattle.std.specs.Prelude.{◌≡◌, ℕ, length}
use Rattle.dmc_tag.specs.Tag.{Tagging}
use Rattle.dmc_tag.specs.State.{queued_requests}
use Rattle.dmc_tag.specs.Replay.{after}
use Rattle.dmc_book.specs.declared.status.Status.{Status}
use Rattle.dmc_ledger.specs.Accounts.{Holding}
use Rattle.dmc_book.specs.BookState.{BookState}
use Rattle.dmc_book.specs.PerCount.{WorkerCounts, EachPair}

-- a worker's counts in a status
abbrev pub counts_in : Status → WorkerCounts ℕ
counts_in s = record { calls = s.calls; misses = s.misses; tokens = s.tokens; grants = s.grants; granted = s.granted; cost = s.cost }

-- the tills hold these numbers
abbrev pub AreHeld : WorkerCounts ℕ → WorkerCounts Holding → Type 0
AreHeld numbers tills = EachPair (λ (n : ℕ) (till : Holding). n ≡ till.amount) numbers tills

-- what the worker's tills hold, and the clients, the requests and the events of the book
pub record IsStatusOf {T : Type 0} (ops : Tagging T) (b : BookState T) (tills : WorkerCounts Holding) (status : Status) : Type 0 where
  pub counts : AreHeld (counts_in status) tills
  pub clients : status.clients ≡ length (after ops b.config b.history).clients
  pub requests : status.requests ≡ length (queued_requests (after ops b.config b.history).clients)
  pub events : status.events ≡ length b.history
  pub closed : status.closed ≡ b.closed
