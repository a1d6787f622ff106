-- What a call does to a book and a pass, and what it is refused for.
use Rattle.std.specs.Prelude.{◌≡◌, ℕ, ◌-◌, ◌⊎◌, IsOk, IsTrue, Bool, true, false, not, List, length, Some, None, Result, Ok, Err, is_some, slice_index_or}
use Rattle.dmc_types.specs.declared.ids.ClientId.{ClientId}
use Rattle.dmc_types.specs.declared.config.PhaseType.{PhaseType}
use Rattle.dmc_types.specs.declared.command.Command.{Command}
use Rattle.dmc_types.specs.declared.command.Command.TheVariants.{Register, Update, Add, Pull, Remove, Cancel, Clean}
use Rattle.dmc_types.specs.declared.refusal.Refusal.TheVariants.{Range}
use Rattle.dmc_tag.specs.Tag.{Tagging}
use Rattle.dmc_tag.specs.State.{State}
use Rattle.dmc_tag.specs.Step.{outcome, step}
use Rattle.dmc_tag.specs.Steps.{Steps, may_grow}
use Rattle.dmc_tag.specs.Replay.{after}
use Rattle.dmc_tag.specs.Answers.{pull_reply}
use Rattle.dmc_tag.specs.declared.reply.Pulled.{Pulled}
use Rattle.dmc_tag.specs.declared.event.Event.{Event}
use Rattle.dmc_tag.specs.declared.reply.Reply.{Reply}
use Rattle.dmc_tag.specs.declared.reply.Reply.TheVariants.{Refused}
use Rattle.dmc_history.specs.Log.{FillBlocks}
use Rattle.dmc_history.specs.declared.ReserveFault.{ReserveFault}
use Rattle.dmc_history.specs.declared.ReserveFault.TheVariants as reserve
use Rattle.dmc_ledger.specs.Bundles.{ClientSide, StampHoldings, StampValue}
use Rattle.dmc_pull.specs.Allowed.{is_allowed}
use Rattle.dmc_book.specs.declared.fault.RunFault.{RunFault}
use Rattle.dmc_book.specs.declared.fault.RunFault.TheVariants as run
use Rattle.dmc_book.specs.declared.fault.RunOrRange.{RunOrRange}
use Rattle.dmc_book.specs.declared.fault.RunOrRange.TheVariants as pull
use Rattle.dmc_book.specs.declared.fault.SubmitCause.{SubmitCause}
use Rattle.dmc_book.specs.declared.fault.SubmitCause.TheVariants as submit
use Rattle.dmc_book.specs.BookState.{BookState, PassState, no_desk}
use Rattle.dmc_book.specs.Moves.{book_after, pass_after, desk_place, takes}

abbrev pub is_add : Command → Bool
is_add (Register client info at) = false
is_add (Update client info at) = false
is_add (Add client token params at) = true
is_add (Pull at) = false
is_add (Remove client) = false
is_add (Cancel client token counting) = false
is_add (Clean at) = false

-- a Register for a client without a desk
abbrev pub lacks_desk : List ClientSide → Command → Bool
lacks_desk desks (Register client info at) = not (is_some (desk_place client.0 desks))
lacks_desk desks (Update client info at) = false
lacks_desk desks (Add client token params at) = false
lacks_desk desks (Pull at) = false
lacks_desk desks (Remove client) = false
lacks_desk desks (Cancel client token counting) = false
lacks_desk desks (Clean at) = false

abbrev pub event_of : {T : Type 0} → ℕ → Command → Reply T → Event T
event_of worker command reply = record { worker = record { 0 = worker }; command = command; reply = reply }

-- the reply that the rules give to a command, after the book's history
abbrev pub reply_to : {T : Type 0} → Tagging T → BookState T → Command → Reply T
reply_to ops b command = (step ops (after ops b.config b.history) command).1

-- the rules would grant a request whose unit the pass can't take
abbrev pub Strays : {T : Type 0} → (ClientId → PhaseType → Bool) → Command → Reply T → Type 0
Strays takes (Register client info at) reply = ⊥
Strays takes (Update client info at) reply = ⊥
Strays takes (Add client token params at) reply = ⊥
Strays takes (Pull at) reply = is_allowed takes reply ≡ false
Strays takes (Remove client) reply = ⊥
Strays takes (Cancel client token counting) reply = ⊥
Strays takes (Clean at) reply = ⊥

-- The history may have no place for the next event: the events that are kept fill their blocks of 1,024, or there are none, so
-- that the next one needs an allocation.
abbrev pub HasNoPlace : {T : Type 0} → BookState T → Type 0
HasNoPlace b = FillBlocks (length b.history - b.first)

-- Memory is what a command lacks: it is one that may allocate and that the rules accept, or its event has no place.
abbrev pub LacksMemory : {T : Type 0} → Tagging T → BookState T → Command → Type 0
LacksMemory ops b command = (IsTrue (may_grow command) × IsOk (outcome ops (after ops b.config b.history) command)) ⊎ HasNoPlace b

-- The reply is that of the rules, and the history has one event more: this worker, this command, this reply. Books and
-- tills move as the event says.
pub record Ran {T : Type 0} (ops : Tagging T) (old new : BookState T) (before later : PassState) (command : Command) (reply : Reply T) : Type 0 where
  pub reply_is : reply ≡ reply_to ops old command
  pub book : new ≡ book_after (event_of before.worker command reply) old
  pub pass : later ≡ pass_after old.server command reply before

-- what is held of stamps in both is of the same books
pub record AreAlike (tills held : StampHoldings) : Type 0 where
  pub stamps : tills.stamps.number ≡ held.stamps.number
  pub delta : tills.delta.number ≡ held.delta.number
  pub rho : tills.rho.number ≡ held.rho.number

-- the stamp is for this server and of a client with a desk here, and the tills are of the books of that desk's stamps
pub record IsForDesk (server : ℕ) (desks : List ClientSide) (stamp : StampValue) (tills : StampHoldings) : Type 0 where
  pub its_server : stamp.server ≡ server
  pub place : ℕ
  pub here : desk_place stamp.client desks ≡ Some place
  pub its_tills : AreAlike tills (slice_index_or desks place no_desk).held

-- a refusal of the queue is recorded, and no other
abbrev pub SubmitRefused : {T : Type 0} → Tagging T → BookState T → BookState T → PassState → PassState → Command → SubmitCause → Type 0
SubmitRefused ops old new before later command submit.Stranger = (new ≡ old) × (later ≡ before)
SubmitRefused ops old new before later command submit.Closed = (new ≡ old) × (later ≡ before)
SubmitRefused ops old new before later command submit.HistoryFull = (new ≡ old) × (later ≡ before)
SubmitRefused ops old new before later command submit.Memory = (new ≡ old) × (later ≡ before)
SubmitRefused ops old new before later command (submit.Refused refusal) = Ran ops old new before later command (Refused refusal)

-- ---- pulls

-- The queue returned, if only Range; or the pull was not passed to it, and never because a desk is missing.
abbrev pub WasPulled : {T : Type 0} → Tagging T → BookState T → BookState T → PassState → PassState → ℕ → Result Pulled RunOrRange → Type 0
WasPulled ops old new before later at (Ok pulled) = Ran ops old new before later (Pull at) (pull_reply pulled)
WasPulled ops old new before later at (Err pull.Range) = Ran ops old new before later (Pull at) (Refused Range)
WasPulled ops old new before later at (Err (pull.Run fault)) = (new ≡ old) × (later ≡ before) × (fault ≡ run.NoDesk → ⊥)

-- ---- what the parts' refusals are called by the book

abbrev pub run_cause : ReserveFault → RunFault
run_cause reserve.HistoryFull = run.HistoryFull
run_cause reserve.Memory = run.Memory

abbrev pub submit_cause : ReserveFault → SubmitCause
submit_cause reserve.HistoryFull = submit.HistoryFull
submit_cause reserve.Memory = submit.Memory

-- a step whose grant the units can take; or no step, since they can't; or no step since memory is refused
abbrev pub Asks : {T : Type 0} → Tagging T → Type 0 → (ClientId → PhaseType → Bool) → State T → State T → Command → Result (Reply T) RunFault → Type 0
Asks ops behind takes old new command (Ok reply) = Steps ops old new command (Some reply) × (is_allowed takes reply ≡ true) × (Strays takes command reply → ⊥)
Asks ops behind takes old new command (Err run.Stranger) = (new ≡ old) × Strays takes command ((step ops old command).1) × (behind → ⊥)
Asks ops behind takes old new command (Err run.Behind) = (new ≡ old) × Strays takes command ((step ops old command).1) × behind
Asks ops behind takes old new command (Err run.NoDesk) = ⊥
Asks ops behind takes old new command (Err run.HistoryFull) = ⊥
Asks ops behind takes old new command (Err run.Memory) = Steps ops old new command None

-- what the queue makes of a pull, as a reply
abbrev pub asked : {T : Type 0} → Result Pulled RunOrRange → Result (Reply T) RunFault
asked (Ok pulled) = Ok (pull_reply pulled)
asked (Err pull.Range) = Ok (Refused Range)
asked (Err (pull.Run fault)) = Err fault
