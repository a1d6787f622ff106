-- Tags in order.
pub mod Order
-- What contracts see of a client's record, what it represents in a plain state, and its invariant.
pub mod Record
-- What only contracts of private functions and proofs cite.
pub mod internal
