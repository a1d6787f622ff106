-- What a submit does, and if it finds the desk of its stamp.
use Rattle.std.specs.Prelude.{◌≡◌, ℕ, ◌<◌, true, false, List, length, Option, Some, None, Result, Ok, Err, slice_index_or}
use Rattle.dmc_types.specs.declared.ids.Token.{Token}
use Rattle.dmc_types.specs.declared.command.Command.TheVariants.{Add}
use Rattle.dmc_tag.specs.Tag.{Tagging}
use Rattle.dmc_tag.specs.declared.reply.Reply.TheVariants.{Tagged}
use Rattle.dmc_tag.specs.declared.reply.Tags.{Tags}
use Rattle.dmc_ledger.specs.Bundles.{ClientSide, StampHoldings, StampValue}
use Rattle.dmc_ledger.specs.Moves.{tills_after_submit}
use Rattle.dmc_book.specs.declared.fault.SubmitCause.{SubmitCause}
use Rattle.dmc_book.specs.declared.fault.SubmitCause.TheVariants as submit
use Rattle.dmc_book.specs.BookState.{BookState, PassState, WorkerSide, no_desk}
use Rattle.dmc_book.specs.Calls.{AreAlike, IsForDesk, LacksMemory, Ran, SubmitRefused}
use Rattle.dmc_book.specs.Moves.{IsEnrolled, desk_place}

-- the desk at a place takes the stamp; or the pass is of no worker here, or the stamp for no desk
abbrev pub FindsDesk : ℕ → List WorkerSide → List ClientSide → PassState → StampValue → StampHoldings → Option ℕ → Type 0
FindsDesk server workers desks p stamp tills (Some place) =
    IsEnrolled workers p × (stamp.server ≡ server) × (desk_place stamp.client desks ≡ Some place) × (place < length desks)
    × AreAlike tills (slice_index_or desks place no_desk).held
FindsDesk server workers desks p stamp tills None = IsEnrolled workers p × IsForDesk server desks stamp tills → ⊥

module _ {T : Type 0} (b : BookState T) (p : PassState) (stamp : StampValue) (tills : StampHoldings) where
  -- the queue is asked
  abbrev pub IsAsked : Type 0
  IsAsked = IsEnrolled b.workers p × IsForDesk b.server b.desks stamp tills × (b.closed ≡ false) × (length b.history ≡ b.most → ⊥)

  -- what holds if a submit is refused for a cause
  abbrev pub HasCause : Tagging T → Token → ℕ → SubmitCause → Type 0
  HasCause ops token at submit.Stranger = IsEnrolled b.workers p × IsForDesk b.server b.desks stamp tills → ⊥
  HasCause ops token at submit.Closed = IsEnrolled b.workers p × IsForDesk b.server b.desks stamp tills × (b.closed ≡ true)
  HasCause ops token at submit.HistoryFull = IsEnrolled b.workers p × IsForDesk b.server b.desks stamp tills × (b.closed ≡ false) × (length b.history ≡ b.most)
  HasCause ops token at submit.Memory = IsAsked × LacksMemory ops b (Add (record { 0 = stamp.client }) token stamp.params at)
  HasCause ops token at (submit.Refused refusal) = IsAsked

-- the request is queued, and its stamp taken from the tills; or it is refused for a cause, and the tills are as they were
abbrev pub Submits : {T : Type 0} → Tagging T → BookState T → BookState T → PassState → PassState → StampValue → StampHoldings → StampHoldings → Token → ℕ → Result (Tags T) SubmitCause → Type 0
Submits ops old new before later stamp tills left token at (Ok tags) =
    Ran ops old new before later (Add (record { 0 = stamp.client }) token stamp.params at) (Tagged tags)
    × (left ≡ tills_after_submit stamp.params tills) × IsAsked old before stamp tills
Submits ops old new before later stamp tills left token at (Err cause) =
    SubmitRefused ops old new before later (Add (record { 0 = stamp.client }) token stamp.params at) cause
    × (left ≡ tills) × HasCause old before stamp tills ops token at cause
