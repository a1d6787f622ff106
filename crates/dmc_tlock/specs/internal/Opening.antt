-- A tracker's book while it is opened.
use Rattle.std.specs.Prelude.{◌≡◌, Some}
use Rattle.dmc_ledger.specs.Bundles.{ServerSide, StampAccounts}

-- one till of each book is open
pub record IsOneTill (books : StampAccounts) : Type 0 where
  pub stamps : books.stamps.open_tills ≡ 1
  pub delta : books.delta.open_tills ≡ 1
  pub rho : books.rho.open_tills ≡ 1

-- the desk has a list of the number of its book of stamps
abbrev pub HasList : ServerSide → Type 0
HasList desk = desk.list ≡ Some desk.books.stamps.number
