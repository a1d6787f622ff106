pub use Rattle.dmc_types.specs.Values
pub use Rattle.dmc_tag.specs.State
pub use Rattle.dmc_tag.specs.Step
pub use Rattle.dmc_tag.specs.Tag
-- The plain state of a queue whose tags are of either type, and the reply to each command.
pub mod AnyState
-- What contracts see of the queue inside. No public clause cites this module.
pub mod Held
