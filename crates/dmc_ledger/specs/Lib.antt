-- What contracts see of a set-up, its books and its tills.
pub mod Accounts
-- What contracts see of tills, books and desks that belong together.
pub mod Bundles
-- What the tokens of growing lists own. Such a list has a number of the set-up, which says for good what names its items.
pub mod Growing
-- The plain steps of books and tills: an amount is issued, a till is opened, a till is gathered.
pub mod Moves
-- The ghost resource that the tokens of books and tills own. A set-up's name has an entry for each number, which says for good
-- what names the rows of that book, once the book is open. Before them it has one that names as many entries again: each says
-- for good what names the items of the list of its number. A book's rows are numbered too. Row 0 is the book's own: how many
-- tills are open, and what they hold together. Each other row is a till's: one part and its amount, or nothing once the till is
-- gathered. A rule has one half of each row and says that they add up, and the token has the other half. A `&` to a token shows
-- some share of that half.
pub mod Rows
-- What only contracts of private functions and proofs cite.
pub mod internal
