-- What a request does to a client's book when it comes in at a shard.
pub mod Arriving
-- What contracts see of a client's book of arrivals, of its lock, and of a server of shards.
pub mod BookState
-- What the response to a grant does to a client's book.
pub mod Responding
-- What only contracts of private functions and proofs cite.
pub mod internal
