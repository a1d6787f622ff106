-- What the book's answers are at the lock.
use Rattle.std.proofs.Common.{◌≡◌, Bool, true, false, true≢false, List, [], Result, Ok, Err, refl, subst, sym}
use Rattle.std.specs.Prelude.{ℕ, ◌==◌, ◌&&◌, not, length, IfErr, IfOk}
use Rattle.std.specs.Cmp.{IsTotalOrder}
use Rattle.dmc_types.specs.declared.ids.ClientId.{ClientId}
use Rattle.dmc_types.specs.declared.config.PhaseType.{PhaseType}
use Rattle.dmc_types.specs.declared.command.Command.{Command}
use Rattle.dmc_types.specs.declared.command.Command.TheVariants.{Register, Update, Add, Pull, Remove, Cancel, Clean}
use Rattle.dmc_types.specs.declared.refusal.Refusal.TheVariants.{Range}
use Rattle.dmc_tag.specs.Answers.{pull_reply}
use Rattle.dmc_tag.specs.declared.reply.Pulled.{Pulled}
use Rattle.dmc_tag.specs.declared.reply.Pulled.TheVariants as pulls
use Rattle.dmc_tag.specs.Tag.{Tagging, Fraction, IsExact}
use Rattle.dmc_tag.specs.State.{effective, queued_requests}
use Rattle.dmc_tag.specs.Step.{step}
use Rattle.dmc_tag.specs.Laws.{Pulls}
use Rattle.dmc_tag.specs.Replay.{after}
use Rattle.dmc_tag.proofs.ForCallers.{pull_grants}
use Rattle.dmc_tag.specs.declared.reply.Reply.{Reply}
use Rattle.dmc_tag.specs.declared.reply.Reply.TheVariants.{Nothing, Refused}
use Rattle.dmc_book.specs.BookState.{BookState, PassState}
use Rattle.dmc_book.specs.Calls.{Ran, Strays, SubmitRefused, WasPulled}
use Rattle.dmc_book.specs.declared.fault.RunOrRange.{RunOrRange}
use Rattle.dmc_book.specs.declared.fault.RunOrRange.TheVariants as pull
use Rattle.dmc_book.specs.declared.fault.SubmitCause.{SubmitCause}
use Rattle.dmc_book.specs.declared.fault.SubmitCause.TheVariants as submit
use Rattle.dmc_book.specs.declared.fault.SubmitFault.{SubmitFault}
use Rattle.dmc_qlock.specs.Calls.{Replied, PullReplied, SubmitReplied, is_pull}
use Rattle.dmc_qlock.specs.internal.Calls.{must_wait}

module _ {T : Type 0} (ops : Tagging T) (old new : BookState T) (before later : PassState) (command : Command) where
  answered : (reply : Reply T) → Ran ops old new before later command reply → Replied ops before later command reply
  answered reply h = record { server = old.server; pass = h.pass; state = after ops old.config old.history; reply_is = h.reply_is }

  submit_answered : (cause : SubmitCause) → SubmitRefused ops old new before later command cause → SubmitReplied ops before later command cause
  submit_answered submit.Stranger h = h.1
  submit_answered submit.Closed h = h.1
  submit_answered submit.HistoryFull h = h.1
  submit_answered submit.Memory h = h.1
  submit_answered (submit.Refused refusal) h = answered (Refused refusal) h

  pub refused_answered : {X : Type 0} (answer : Result X SubmitFault) → IfErr answer (λ fault. SubmitRefused ops old new before later command fault.cause) → IfErr answer (λ fault. SubmitReplied ops before later command fault.cause)
  refused_answered (Ok x) h = h
  refused_answered (Err fault) h = submit_answered fault.cause h

  pub ok_answered : {X E : Type 0} (reply : X → Reply T) (answer : Result X E) → IfOk answer (λ x. Ran ops old new before later command (reply x)) → IfOk answer (λ x. Replied ops before later command (reply x))
  ok_answered reply (Ok x) h = answered (reply x) h
  ok_answered reply (Err e) h = h

module _ {T : Type 0} (ops : Tagging T) (old new : BookState T) (before later : PassState) (at : ℕ) where
  pub pull_answered : (answer : Result Pulled RunOrRange) → WasPulled ops old new before later at answer → PullReplied ops before later at answer
  pull_answered (Ok pulled) h = answered ops old new before later (Pull at) (pull_reply pulled) h
  pull_answered (Err pull.Range) h = answered ops old new before later (Pull at) (Refused Range) h
  pull_answered (Err (pull.Run fault)) h = (h.1, h.2)

-- a grant that a pass can't take is one of a pull
pub strays_if_pulled : {T : Type 0} (takes : ClientId → PhaseType → Bool) (command : Command) (reply : Reply T) → Strays takes command reply → is_pull command ≡ true
strays_if_pulled takes (Register client info at) reply h = absurd h
strays_if_pulled takes (Update client info at) reply h = absurd h
strays_if_pulled takes (Add client token params at) reply h = absurd h
strays_if_pulled takes (Pull at) reply h = refl
strays_if_pulled takes (Remove client) reply h = absurd h
strays_if_pulled takes (Cancel client token counting) reply h = absurd h
strays_if_pulled takes (Clean at) reply h = absurd h

-- with nothing queued, who need not wait finds the book closed
closed_if : {X : Type 0} (closed : Bool) (queued : List X) → queued ≡ [] → ((length queued == 0) && not closed) ≡ false → closed ≡ true
closed_if true queued nothing ready = refl
closed_if false queued nothing ready = absurd (true≢false (subst (λ xs. ((length xs == 0) && true) ≡ false) nothing ready))

module _ {T : Type 0} (ops : Tagging T) (fraction : T → Fraction) (is_value : Fraction → Type 0) (exact : IsExact ops fraction is_value) (order : IsTotalOrder ops.compare) (old new : BookState T) (before later : PassState) (at : ℕ) where
  -- nothing is pulled only if nothing is queued
  nothing_queued : Ran ops old new before later (Pull at) Nothing → queued_requests (after ops old.config old.history).clients ≡ []
  nothing_queued h =
      let state = after ops old.config old.history in
      let pulled = pull_grants ops fraction is_value exact order state at in
      (subst (Pulls ops (effective state at) state ((step ops state (Pull at)).0)) (sym h.reply_is) pulled).0

  pub nothing_if_closed : (answer : Result Pulled RunOrRange) → must_wait ops old ≡ false → WasPulled ops old new before later at answer
      → IfOk answer (λ pulled. pulled ≡ pulls.Nothing → old.closed ≡ true)
  nothing_if_closed (Ok pulled) ready h = λ e. closed_if old.closed _ (nothing_queued (subst (λ p. Ran ops old new before later (Pull at) (pull_reply p)) e h)) ready
  nothing_if_closed (Err e) ready h = tt
