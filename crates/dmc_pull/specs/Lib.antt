-- The clients that the entries of a roster represent in a plain state.
pub mod Represented
-- What contracts see of the indexed queue, the plain state that it represents, and its invariant.
pub mod Queue
-- The index clause: what the three indexes of a queue hold, in terms of the plain state that the queue represents.
pub mod FirstRequests
-- The result of a pull with the caller's test.
pub mod Allowed
-- What only contracts of private functions and proofs cite.
pub mod internal
