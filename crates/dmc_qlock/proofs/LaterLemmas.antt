-- What each call leaves as it was.
use Rattle.std.proofs.Common.{◌≡◌, ℕ, ◌≤◌, ◌<◌, arith, slice_index_or, List, [], ◌∷◌, map, refl, sym, ap, ◌∙◌, subst}
use Rattle.std.specs.Prelude.{Bool, Option, Result, Ok, Err, IfErr, IfNone, IfOk, IfSome, IsSome, OnErr, OnOk, OnSome, length}
use Rattle.std.proofs.lemmas.List.{append-nil}
use Rattle.dmc_types.specs.declared.command.Command.{Command}
use Rattle.dmc_types.specs.declared.command.Command.TheVariants.{Pull}
use Rattle.dmc_types.specs.declared.refusal.Refusal.TheVariants.{Range}
use Rattle.dmc_tag.specs.Answers.{pull_reply}
use Rattle.dmc_tag.specs.Tag.{Tagging}
use Rattle.dmc_tag.specs.declared.event.Event.{Event}
use Rattle.dmc_tag.specs.declared.reply.Pulled.{Pulled}
use Rattle.dmc_tag.specs.declared.reply.Reply.{Reply}
use Rattle.dmc_tag.specs.declared.reply.Reply.TheVariants.{Refused}
use Rattle.dmc_book.specs.BookState.{BookState, PassState, no_worker}
use Rattle.dmc_book.specs.Calls.{Ran, SubmitRefused, WasPulled, event_of}
use Rattle.dmc_book.specs.Moves.{book_after, desk_after, worker_after}
use Rattle.dmc_book.specs.Renewing.{book_renewed, renewed_worker}
use Rattle.dmc_book.specs.Rotating.{after_rotating}
use Rattle.dmc_book.specs.declared.fault.RunOrRange.{RunOrRange}
use Rattle.dmc_book.specs.declared.fault.RunOrRange.TheVariants as pull
use Rattle.dmc_book.specs.declared.fault.SubmitCause.{SubmitCause}
use Rattle.dmc_book.specs.declared.fault.SubmitCause.TheVariants as submit
use Rattle.dmc_book.specs.declared.fault.SubmitFault.{SubmitFault}
use Rattle.dmc_shared.specs.Later.{desk_numbers}
use Rattle.dmc_shared.proofs.LaterLemmas.{later_by, later_if, on_some, seen_set}
use Rattle.dmc_book.specs.Later.{IsLater, IsReleased, worker_numbers}

-- each is seen as what it was
seen_kept : {X Y : Type 0} (f : X → Y) (g : X → X) (xs : List X) → ((x : X) → f (g x) ≡ f x) → map f (map g xs) ≡ map f xs
seen_kept f g [] same = refl
seen_kept f g (x ∷ xs) same = ap (λ z. z ∷ map f (map g xs)) (same x) ∙ ap (λ zs. f x ∷ zs) (seen_kept f g xs same)

module _ {T : Type 0} where
  pub later_same : (b : BookState T) → IsLater b b
  later_same b = record { config = refl; server = refl; number = refl; first = refl; most = refl; workers = refl; desks = refl; rest = []; grown = sym (append-nil b.history) }

  pub later_closed : (b : BookState T) (closed : Bool) → IsLater b (record b { closed = closed })
  later_closed b closed = record { config = refl; server = refl; number = refl; first = refl; most = refl; workers = refl; desks = refl; rest = []; grown = sym (append-nil b.history) }

  later_event : (e : Event T) (b : BookState T) → IsLater b (book_after e b)
  later_event e b = record {
    config = refl;
    server = refl;
    number = refl;
    first = refl;
    most = refl;
    workers = seen_kept worker_numbers (worker_after e) b.workers (λ w. refl);
    desks = seen_kept desk_numbers (desk_after e) b.desks (λ d. refl);
    rest = e ∷ [];
    grown = refl;
  }

  released_so : (b : BookState T) → b.first ≤ length b.history → b.first < b.most → IsReleased b (after_rotating b)
  released_so b within goes_on = record {
    config = refl;
    server = refl;
    number = refl;
    first = within;
    most = omega (arith, goes_on);
    workers = refl;
    desks = refl;
    history = refl;
    closed = refl;
  }

  released_same : (b : BookState T) → IsReleased b b
  released_same b = record { config = refl; server = refl; number = refl; first = omega arith; most = refl; workers = refl; desks = refl; history = refl; closed = refl }

  -- a rotation, which may return nothing
  pub released_if : {X : Type 0} (old new : BookState T) (segment : Option X) → IfSome segment (λ x. new ≡ after_rotating old)
      → OnSome segment (old.first ≤ length old.history) → (IsSome segment → old.first < old.most) → IfNone segment (new ≡ old) → IsReleased old new
  released_if old new segment rotated within goes_on kept = later_if IsReleased released_same old new (after_rotating old) segment
      (λ some. released_so old (on_some segment within some) (goes_on some)) rotated kept

  later_anew : (b : BookState T) (place : ℕ) → IsLater b (book_renewed place b)
  later_anew b place = record {
    config = refl;
    server = refl;
    number = refl;
    first = refl;
    most = refl;
    workers = seen_set worker_numbers b.workers place (renewed_worker (length b.history) (slice_index_or b.workers place no_worker)) no_worker refl;
    desks = refl;
    rest = [];
    grown = sym (append-nil b.history);
  }

  pub later_renewed : {X E : Type 0} (old new : BookState T) (place : ℕ) (sums : Result X E) → OnOk sums (new ≡ book_renewed place old) → OnErr sums (new ≡ old) → IsLater old new
  later_renewed old new place sums renewed kept = later_by IsLater later_same old new (book_renewed place old) sums (later_anew old place) renewed kept

  module _ (ops : Tagging T) (old new : BookState T) (before later : PassState) where
    later_left : new ≡ old → IsLater old new
    later_left same = subst (IsLater old) (sym same) (later_same old)

    later_ran : (command : Command) (reply : Reply T) → Ran ops old new before later command reply → IsLater old new
    later_ran command reply h = subst (IsLater old) (sym h.book) (later_event (event_of before.worker command reply) old)

    pub later_run : {E : Type 0} (command : Command) (answer : Result (Reply T) E) → IfOk answer (λ reply. Ran ops old new before later command reply)
        → OnErr answer (new ≡ old) → IsLater old new
    later_run command (Ok reply) ran kept = later_ran command reply ran
    later_run command (Err e) ran kept = later_left kept

    pub later_pulled : (at : ℕ) (answer : Result Pulled RunOrRange) → WasPulled ops old new before later at answer → IsLater old new
    later_pulled at (Ok pulled) h = later_ran (Pull at) (pull_reply pulled) h
    later_pulled at (Err pull.Range) h = later_ran (Pull at) (Refused Range) h
    later_pulled at (Err (pull.Run fault)) h = later_left h.0

    later_refused : (command : Command) (cause : SubmitCause) → SubmitRefused ops old new before later command cause → IsLater old new
    later_refused command submit.Stranger h = later_left h.0
    later_refused command submit.Closed h = later_left h.0
    later_refused command submit.HistoryFull h = later_left h.0
    later_refused command submit.Memory h = later_left h.0
    later_refused command (submit.Refused refusal) h = later_ran command (Refused refusal) h

    pub later_submitted : {X : Type 0} (command : Command) (reply : X → Reply T) (answer : Result X SubmitFault)
        → IfOk answer (λ x. Ran ops old new before later command (reply x))
        → IfErr answer (λ fault. SubmitRefused ops old new before later command fault.cause) → IsLater old new
    later_submitted command reply (Ok x) accepted refused = later_ran command (reply x) accepted
    later_submitted command reply (Err fault) accepted refused = later_refused command fault.cause refused
