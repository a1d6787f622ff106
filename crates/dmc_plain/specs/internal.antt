-- What a queue keeps to: its limits, and that no two clients have one id.
pub mod Kept
-- The sets that the queue searches, and the best of a set among one client's requests, by its index.
pub mod Sets
-- Where a request is.
pub mod Places
-- An arrival in two parts: the request is queued, which may fail, before others are shifted; the rest is recorded after that.
pub mod Arrivals
-- A cancel in two parts: each request is changed, and then those with the token are removed.
pub mod Passed
-- When something is due.
pub mod Due
-- Which requests a reduction may change.
pub mod Reductions
-- The new state and the reply of an outcome.
pub mod Settled
