-- What a command that is no Add does.
use Rattle.std.specs.Prelude.{◌≡◌, ◌<◌, true, false, length, Result, Ok, Err}
use Rattle.dmc_types.specs.declared.command.Command.{Command}
use Rattle.dmc_tag.specs.Tag.{Tagging}
use Rattle.dmc_tag.specs.declared.reply.Reply.{Reply}
use Rattle.dmc_book.specs.declared.fault.RunFault.{RunFault}
use Rattle.dmc_book.specs.declared.fault.RunFault.TheVariants as run
use Rattle.dmc_book.specs.BookState.{BookState, PassState}
use Rattle.dmc_book.specs.Calls.{LacksMemory, Ran, Strays, lacks_desk, reply_to}
use Rattle.dmc_book.specs.Moves.{IsEnrolled, takes}

module _ {T : Type 0} (ops : Tagging T) (old : BookState T) (before : PassState) (command : Command) where
  abbrev pub IsFull : Type 0
  IsFull = length old.history ≡ old.most

  -- the pass can't take the grant
  abbrev pub StraysHere : Type 0
  StraysHere = Strays (takes old.desks before.clients before.units) command (reply_to ops old command)

  -- desks came after the pass
  abbrev pub IsBehind : Type 0
  IsBehind = length before.units < length old.desks

  -- the reply is recorded; or nothing changes, for a cause
  abbrev pub Runs : BookState T → PassState → Result (Reply T) RunFault → Type 0
  Runs new later (Ok reply) = Ran ops old new before later command reply
      × IsEnrolled old.workers before × (lacks_desk old.desks command ≡ false) × (IsFull → ⊥) × (StraysHere → ⊥)
  Runs new later (Err run.Stranger) = (new ≡ old) × (later ≡ before)
      × (IsEnrolled old.workers before → (lacks_desk old.desks command ≡ false) × (IsFull → ⊥) × StraysHere × (IsBehind → ⊥))
  Runs new later (Err run.Behind) = (new ≡ old) × (later ≡ before)
      × IsEnrolled old.workers before × (lacks_desk old.desks command ≡ false) × (IsFull → ⊥) × StraysHere × IsBehind
  Runs new later (Err run.NoDesk) = (new ≡ old) × (later ≡ before) × IsEnrolled old.workers before × (lacks_desk old.desks command ≡ true)
  Runs new later (Err run.HistoryFull) = (new ≡ old) × (later ≡ before)
      × IsEnrolled old.workers before × (lacks_desk old.desks command ≡ false) × IsFull
  Runs new later (Err run.Memory) = (new ≡ old) × (later ≡ before)
      × IsEnrolled old.workers before × (lacks_desk old.desks command ≡ false) × (IsFull → ⊥)
      × LacksMemory ops old command
