-- What contracts of a caller cite of a cluster and of a run of it.
pub use Rattle.dmc_core.specs.Core
pub use Rattle.dmc_core.specs.Events
pub use Rattle.dmc_core.specs.Opening
pub use Rattle.dmc_core.specs.Run
pub use Rattle.dmc_core_laws.specs.Bounds
pub use Rattle.dmc_core_laws.specs.Histories
pub use Rattle.dmc_core_laws.specs.Steps
pub use Rattle.dmc_driver.specs.Done
pub use Rattle.dmc_driver.specs.Ending
pub use Rattle.dmc_driver.specs.Stops
pub use Rattle.dmc_driver_threads.specs.LimitsValue
pub use Rattle.dmc_driver_threads.specs.Opened
pub use Rattle.dmc_scene.specs.Reading
pub use Rattle.dmc_scene.specs.SceneValue
pub use Rattle.dmc_settle.specs.Circle
pub use Rattle.dmc_settle.specs.Left
pub use Rattle.dmc_settle.specs.Reports
-- The types that contracts of a caller name.
pub mod Types
-- The events of a cluster core, by name.
pub mod CoreEvents
