-- The events of a cluster core, by name.
pub use Rattle.dmc_core.specs.declared.event.CoreEvent.TheVariants.{Stamp, Arrive, Pull, Respond, Update, Remove, Cancel, Clean}
