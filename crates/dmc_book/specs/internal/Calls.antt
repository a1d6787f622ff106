-- What the queue of a book replies.
use Rattle.std.specs.Prelude.{Option, Some, None}
use Rattle.dmc_tag.specs.declared.reply.Reply.{Reply}
use Rattle.dmc_tag.specs.declared.reply.Reply.TheVariants.{Tagged, Refused}
use Rattle.dmc_book.specs.declared.asking.Added.{Added}
use Rattle.dmc_book.specs.declared.asking.Added.TheVariants as added
use Rattle.dmc_book.specs.declared.fault.RunFault.{RunFault}
use Rattle.dmc_book.specs.declared.fault.RunFault.TheVariants as run

-- ---- what the queue makes of a command

-- what a grant that the units can't take is refused for, of a pass that has tills of fewer desks than there are, or of all
abbrev pub IsOfDeclined : Type 0 → RunFault → Type 0
IsOfDeclined behind run.Stranger = behind → ⊥
IsOfDeclined behind run.Behind = behind
IsOfDeclined behind run.NoDesk = ⊥
IsOfDeclined behind run.HistoryFull = ⊥
IsOfDeclined behind run.Memory = ⊥

abbrev pub added_reply : {T : Type 0} → Added T → Option (Reply T)
added_reply (added.Tagged tags) = Some (Tagged tags)
added_reply (added.Refused refusal) = Some (Refused refusal)
added_reply added.Memory = None
