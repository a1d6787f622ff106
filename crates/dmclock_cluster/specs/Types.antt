-- The types that contracts of a caller name.
pub use Rattle.dmc_core.specs.declared.event.CoreEvent.{CoreEvent}
pub use Rattle.dmc_core.specs.declared.event.CoreFault.{CoreFault}
pub use Rattle.dmc_core.specs.declared.event.CoreReply.{CoreReply}
pub use Rattle.dmc_driver.specs.declared.fault.DriveFault.{DriveFault}
pub use Rattle.dmc_pull.specs.Queue.{Queue, state_of}
pub use Rattle.dmc_ratio.specs.Ratio.{ratio_ops}
pub use Rattle.dmc_scene.specs.declared.fault.SceneFault.{SceneFault}
pub use Rattle.dmc_settle.specs.declared.report.ClientReport.{ClientReport}
pub use Rattle.dmc_settle.specs.declared.report.ClusterReport.{ClusterReport}
pub use Rattle.dmc_settle.specs.declared.report.ServerReport.{ServerReport}
pub use Rattle.dmc_settle.specs.declared.report.StopCause.{StopCause}
pub use Rattle.dmc_tag.specs.Tag.{Tagging}
pub use Rattle.dmc_tick.specs.Tick.{tick_ops}
pub use Rattle.dmc_types.specs.declared.config.TagKind.{TagKind}
pub use Rattle.dmc_types.specs.declared.ids.ClientId.{ClientId}
pub use Rattle.dmc_types.specs.declared.ids.ServerId.{ServerId}
pub use Rattle.dmc_types.specs.declared.ids.Token.{Token}
