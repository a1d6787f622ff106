-- The circle: what a server's queue and a client's tracker say of each other.
pub mod Circle
-- What a cluster's threads left, and when its parts are those of one cluster.
pub mod Left
-- What a report of a run says.
pub mod Reports
-- What only the proofs and the contracts of private functions speak of.
pub mod internal
