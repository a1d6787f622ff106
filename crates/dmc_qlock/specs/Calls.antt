-- What a call through the lock shows its caller: what its own pass holds afterwards.
use Rattle.std.specs.Prelude.{◌≡◌, ℕ, Bool, true, false, List, map, Result, Ok, Err}
use Rattle.dmc_types.specs.declared.command.Command.{Command}
use Rattle.dmc_types.specs.declared.ids.WorkerId.{WorkerId}
use Rattle.dmc_types.specs.declared.command.Command.TheVariants.{Register, Pull}
use Rattle.dmc_types.specs.declared.refusal.Refusal.TheVariants.{Range}
use Rattle.dmc_tag.specs.Tag.{Tagging}
use Rattle.dmc_tag.specs.State.{State}
use Rattle.dmc_tag.specs.Step.{step}
use Rattle.dmc_tag.specs.Answers.{pull_reply}
use Rattle.dmc_tag.specs.declared.reply.Pulled.{Pulled}
use Rattle.dmc_tag.specs.declared.reply.Reply.{Reply}
use Rattle.dmc_tag.specs.declared.reply.Reply.TheVariants.{Refused}
use Rattle.dmc_ledger.specs.Bundles.{ClientSide}
use Rattle.dmc_book.specs.BookState.{PassState}
use Rattle.dmc_book.specs.Joining.{id_of, pass_extended}
use Rattle.dmc_book.specs.Opening.{new_pass}
use Rattle.dmc_book.specs.Moves.{pass_after}
use Rattle.dmc_book.specs.declared.fault.RunFault.TheVariants as run
use Rattle.dmc_book.specs.declared.fault.SubmitCause.{SubmitCause}
use Rattle.dmc_book.specs.declared.fault.SubmitCause.TheVariants as submit
use Rattle.dmc_book.specs.declared.fault.RunOrRange.{RunOrRange}
use Rattle.dmc_book.specs.declared.fault.RunOrRange.TheVariants as pull

-- ---- commands through the lock

-- The queue of some server replied: the rules give this reply to the command in some state, and the pass steps with it.
pub record Replied {T : Type 0} (ops : Tagging T) (before later : PassState) (command : Command) (reply : Reply T) : Type 0 where
  pub server : ℕ
  pub pass : later ≡ pass_after server command reply before
  pub state : State T
  pub reply_is : reply ≡ (step ops state command).1

abbrev pub registers : Command → Bool
registers (Register client info at) = true
registers command = false

abbrev pub is_pull : Command → Bool
is_pull (Pull at) = true
is_pull command = false

-- a refusal of the queue is counted, and no other
abbrev pub SubmitReplied : {T : Type 0} → Tagging T → PassState → PassState → Command → SubmitCause → Type 0
SubmitReplied ops before later command submit.Stranger = later ≡ before
SubmitReplied ops before later command submit.Closed = later ≡ before
SubmitReplied ops before later command submit.HistoryFull = later ≡ before
SubmitReplied ops before later command submit.Memory = later ≡ before
SubmitReplied ops before later command (submit.Refused refusal) = Replied ops before later command (Refused refusal)

-- ---- pulls through the lock

-- The queue returned, if only Range; or the pull was not passed to it, and never because a desk is missing.
abbrev pub PullReplied : {T : Type 0} → Tagging T → PassState → PassState → ℕ → Result Pulled RunOrRange → Type 0
PullReplied ops before later at (Ok pulled) = Replied ops before later (Pull at) (pull_reply pulled)
PullReplied ops before later at (Err pull.Range) = Replied ops before later (Pull at) (Refused Range)
PullReplied ops before later at (Err (pull.Run fault)) = (later ≡ before) × (fault ≡ run.NoDesk → ⊥)

-- ---- passes that are extended, and new ones

-- the pass has empty tills of more desks, and is else as it was
pub record IsExtended (before later : PassState) : Type 0 where
  pub desks : List ClientSide
  pub pass : later ≡ pass_extended desks before

-- the pass of a worker whose books are the next of the mint: it holds nothing, and has tills of each desk
pub record IsNewPass (n : ℕ) (worker : WorkerId) (pass : PassState) : Type 0 where
  pub place : ℕ
  pub desks : List ClientSide
  pub is_new : pass ≡ new_pass place n (map id_of desks) desks worker
