-- A desk's books after a grant.
pub mod Moves
