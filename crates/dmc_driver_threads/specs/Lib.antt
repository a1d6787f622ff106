-- What contracts see of the limits of a run.
pub mod LimitsValue
-- What each server and each client's tracker of a run is opened with, and keeps.
pub mod Opened
-- What only the proofs and the contracts of private functions speak of.
pub mod internal
