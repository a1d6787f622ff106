-- The types that contracts of a back end name.
pub use Rattle.dmc_types.specs.declared.ids.ClientId.{ClientId}
pub use Rattle.dmc_types.specs.declared.ids.ServerId.{ServerId}
pub use Rattle.dmc_types.specs.declared.ids.Token.{Token}
pub use Rattle.dmc_types.specs.declared.ids.WorkerId.{WorkerId}
pub use Rattle.dmc_types.specs.declared.config.PhaseType.{PhaseType}
pub use Rattle.dmc_types.specs.declared.config.Shares.{Shares}
pub use Rattle.dmc_types.specs.declared.command.Command.{Command}
pub use Rattle.dmc_tag.specs.declared.event.Event.{Event}
pub use Rattle.dmc_tag.specs.declared.rank.TagRank.{TagRank}
pub use Rattle.dmc_tag.specs.declared.rank.LimitRank.{LimitRank}
pub use Rattle.dmc_tag.specs.declared.rank.ReadyRank.{ReadyRank}
pub use Rattle.dmc_tag.specs.declared.reply.Reply.{Reply}
pub use Rattle.dmc_shards.specs.declared.call.ShardCall.{ShardCall}
pub use Rattle.dmc_shards.specs.declared.status.ShardStatus.{ShardStatus}
