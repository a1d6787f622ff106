-- The ghost resource that the tokens of books and tills own. A set-up's name has an entry for each number, which says for good
-- what names the rows of that book, once the book is open. Before them it has one that names as many entries again: each says
-- for good what names the items of the list of its number. A book's rows are numbered too. Row 0 is the book's own: how many
-- tills are open, and what they hold together. Each other row is a till's: one part and its amount, or nothing once the till is
-- gathered. A rule has one half of each row and says that they add up, and the token has the other half. A `&` to a token shows
-- some share of that half.
use Rattle.std.specs.Prelude.{ℕ, suc, ◌≤◌, ◌^◌, List, [], ◌∷◌}
use base.Fraction.{full_share, left, right}
use base.Stored.{coded_ℕ, coded×}
use base.Algebra.{Algebra}
use base.SetCodes.{coded}
use base.Algebras.{both, shares, agreed}
use base.Fml.{Lft, Share, Fml, ftrue, fsep, fex, finv}
use types.Keyed.{entry, entries_from}
use denote.Sharing.{said, one, beside}
use Rattle.core.specs.Sync.Ledger.{IsBalanced}

-- a share of a row's two numbers
abbrev pub row_shares : Algebra
row_shares = both shares (agreed (coded (coded× coded_ℕ coded_ℕ)))

-- a share of the name of a book's rows
abbrev pub name_shares : Algebra
name_shares = both shares (agreed (coded coded_ℕ))

abbrev pub part : ℕ → ℕ → Share → ℕ × ℕ → Fml
part rows k q x = entry row_shares rows k (q, x)

-- this entry names that, for good
abbrev pub named : ℕ → ℕ → ℕ → Fml
named name k that = fex Share (λ q. entry name_shares name k (q, that))

-- the book of this number has these rows, for good
abbrev pub known : ℕ → ℕ → ℕ → Fml
known name number rows = named name (suc number) rows

-- the list of this number has these items, for good
abbrev pub listed : ℕ → ℕ → ℕ → Fml
listed name number items = fex ℕ (λ lists. fsep (named name 0 lists) (named lists number items))

-- the rule's half of each row from the k-th on; nobody has the rows behind them yet
abbrev pub roster : ℕ → ℕ → List (ℕ × ℕ) → Fml
roster rows k [] = entries_from row_shares rows k (λ _. (full_share, (0, 0)))
roster rows k (x ∷ xs) = fsep (part rows k (right full_share) x) (roster rows (suc k) xs)

-- the tills' rows add up to the book's, which holds at most 2 ^ 63
abbrev pub AddsUp : ℕ × ℕ → List (ℕ × ℕ) → Type 0
AddsUp book tills = IsBalanced book.0 (book.1, tills) × (book.1 ≤ 2 ^ 63)

abbrev pub state : ℕ → (ℕ × ℕ) × List (ℕ × ℕ) → Fml
state rows s = fsep (roster rows 0 (s.0 ∷ s.1)) (fex (AddsUp s.0 s.1) (λ _. ftrue))

-- what the rule of a book holds between any two steps
abbrev pub Rule : ℕ → Fml
Rule rows = fex ((ℕ × ℕ) × List (ℕ × ℕ)) (state rows)

-- what can be had twice of a book or a till
abbrev pub knows : ℕ → ℕ → ℕ → Fml
knows name number rows = fsep (known name number rows) (finv (Rule rows))

-- the entries from this one on name nothing yet
abbrev pub unnamed : ℕ → ℕ → Fml
unnamed name k = entries_from name_shares name k (λ _. (full_share, 0))

-- the lists from this number on are still to be opened
abbrev pub unlisted : ℕ → ℕ → Fml
unlisted name number = fex ℕ (λ lists. fsep (named name 0 lists) (unnamed lists number))

-- the books from one number on are still to be opened, and the lists from another on
unfoldable pub mint_owns : ℕ → ℕ → ℕ → Fml
mint_owns name books lists = fsep (unnamed name (suc books)) (unlisted name lists)

-- a row of the book, of which a share q of the token's half is had
abbrev pub row : ℕ → ℕ → ℕ × ℕ → Share → Fml
row rows k x q = part rows k (left q) x

abbrev pub owns : ℕ → ℕ → ℕ → ℕ → ℕ × ℕ → Fml
owns name number rows k x = fsep (knows name number rows) (row rows k x full_share)

abbrev pub shows : ℕ → ℕ → ℕ → ℕ → ℕ × ℕ → Lft → Fml
shows name number rows k x = beside (said (knows name number rows)) (one (row rows k x))

unfoldable pub book_owns : ℕ → ℕ → ℕ → ℕ → ℕ → Fml
book_owns name number rows tills held = owns name number rows 0 (tills, held)

unfoldable pub book_shares : ℕ → ℕ → ℕ → ℕ → ℕ → Lft → Fml
book_shares name number rows tills held = shows name number rows 0 (tills, held)

unfoldable pub till_owns : ℕ → ℕ → ℕ → ℕ → ℕ → Fml
till_owns name number rows k amount = owns name number rows (suc k) (1, amount)

unfoldable pub till_shares : ℕ → ℕ → ℕ → ℕ → ℕ → Lft → Fml
till_shares name number rows k amount = shows name number rows (suc k) (1, amount)
