-- What a call through the lock shows its caller: what its own pass holds afterwards.
pub mod Calls
-- What contracts see of a queue's lock.
pub mod LockState
-- What only contracts of private functions and proofs cite.
pub mod internal
