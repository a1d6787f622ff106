-- What contracts see of a set-up, its books and its tills.
use Rattle.std.specs.Prelude.{◌≡◌, ℕ, ◌+◌, ◌≤◌, ◌^◌}

-- a set-up that has no type yet: its name and how many books it may have
pub record Unopened : Type 0 where
  pub name : ℕ
  pub books : ℕ

-- a mint: how many books it opened, and how many it may still open
pub record Stock : Type 0 where
  pub opened : ℕ
  pub left : ℕ

-- a book: its number, what was gathered, what its open tills hold together, and how many are open
pub record Account : Type 0 where
  pub number : ℕ
  pub gathered : ℕ
  pub held : ℕ
  pub open_tills : ℕ

-- a till: the number of its book, and what it holds
pub record Holding : Type 0 where
  pub number : ℕ
  pub amount : ℕ

-- the defaults of a place without a book or a till
abbrev pub no_account : Account
no_account = record { number = 0; gathered = 0; held = 0; open_tills = 0 }

abbrev pub no_holding : Holding
no_holding = record { number = 0; amount = 0 }

-- a book's total is what was gathered plus what its open tills hold
abbrev pub total_of : Account → ℕ
total_of b = b.gathered + b.held

-- the book with its only till gathered
abbrev pub after_closing : Account → Account
after_closing b = record { number = b.number; gathered = total_of b; held = 0; open_tills = 0 }

-- a book of which one till is open, and that till, both new
abbrev pub new_book : ℕ → Account
new_book n = record { number = n; gathered = 0; held = 0; open_tills = 1 }

abbrev pub new_till : ℕ → Holding
new_till n = record { number = n; amount = 0 }

-- how the numbers of a book are related to its token's
pub record IsCounted (total gathered open_tills tills held : ℕ) : Type 0 where
  pub sum : total ≡ gathered + held
  pub limit : total ≤ 2 ^ 63
  pub open_is : tills ≡ open_tills
  pub none_open : open_tills ≡ 0 → held ≡ 0
