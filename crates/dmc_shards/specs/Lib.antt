-- A shard tracker's list of accepted calls, oldest first, and what its counts are. Two counts always go together: delta, of all
-- that came in, and rho, of what of it is in the constraint phase.
pub mod CallList
-- Small lists of calls on which the bounds are computed, with a history of dmc_history_laws as that of shard 0's queue.
pub mod Examples
-- What a shard tracker keeps, in the place of a list. No public clause cites this module.
pub mod Kept
-- The bounds of the limit and of the reservation across the shards of a server. The arrivals of a client at a shard, a_1, a_2, ..,
-- are the accepted adds of the client in the history of the shard's queue.
pub mod ShardBounds
-- What contracts see of a shard tracker: the numbers of a list of calls, and no list.
pub mod ShardNumbers
