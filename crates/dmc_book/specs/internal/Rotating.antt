-- The accounts after a rotation.
use Rattle.std.specs.Prelude.{◌+◌, ◌-◌, length}
use Rattle.dmc_book.specs.BookState.{AccountsState}

-- the same of accounts
abbrev pub accounts_rotated : {T : Type 0} → AccountsState T → AccountsState T
accounts_rotated a = record a { first = length a.history; most = length a.history + (a.most - a.first); room = 0 }
