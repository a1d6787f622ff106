-- The simulation of a scene over the cluster run of dmc_core: its rounds, event by event.
pub mod Simulation
-- The report of a simulation.
pub mod Reports
-- The text of a report.
pub mod Texts
-- The scene of two clients, and its report, computed.
pub mod Examples
-- What only contracts of private functions and proofs cite.
pub mod internal
