-- A cluster run: a plain state per server, a tracker list per client, and per pair of a client and a server the messages
-- in flight and the grants not yet responded.
pub mod Run
-- What each event makes of a cluster run, and its reply. A refused event changes nothing.
pub mod Events
-- What contracts see of the core, and which states of a cluster run it represents.
pub mod Core
-- A tracker's refusal as one of the cluster.
pub mod Faults
-- How a cluster opens for a scene.
pub mod Opening
-- What only contracts of private functions and proofs cite.
pub mod internal
