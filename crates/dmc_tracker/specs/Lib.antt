-- What contracts see of a tracker: the numbers of a tracker list, and no list.
pub mod Numbers
-- What is left of two counts that go together without others, and when some are a part of others.
pub mod Parts
-- What a tracker keeps for a server, in the place of a list. No public clause cites this module.
pub mod Server
-- A tracker's list of stamps, skips and responses, oldest first, and what its counts are. Two counts always go together:
-- delta, of the costs of all responses, and rho, of the costs of those of them in the constraint phase.
pub mod TrackerList
