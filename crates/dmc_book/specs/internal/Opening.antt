-- Capacity that opening has made.
use Rattle.std.specs.Prelude.{◌<◌}
use Rattle.dmc_types.specs.Limits.{max_open_tills}
use Rattle.dmc_ledger.specs.Bundles.{PhaseAccounts, GrantAccounts}

-- one more till of each of the books may be opened
pub record HasPhaseRoom (books : PhaseAccounts) : Type 0 where
  pub grants : books.grants.open_tills < max_open_tills
  pub cost : books.cost.open_tills < max_open_tills

pub record HaveRoom (books : GrantAccounts) : Type 0 where
  pub reservation : HasPhaseRoom books.reservation
  pub priority : HasPhaseRoom books.priority
