-- A client's book while it is opened.
use Rattle.std.specs.Prelude.{◌≡◌}
use Rattle.dmc_ledger.specs.Bundles.{StampAccounts}

-- one till of each book is open
pub record IsOneTill (books : StampAccounts) : Type 0 where
  pub stamps : books.stamps.open_tills ≡ 1
  pub delta : books.delta.open_tills ≡ 1
  pub rho : books.rho.open_tills ≡ 1
