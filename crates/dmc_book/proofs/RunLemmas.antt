-- What was answered or refused, of a command that is no Add.
use Rattle.std.proofs.Common.{ℕ, zero, suc, ap, ◌≡◌, [], ◌∷◌, slice_index_or, ◌<◌, Bool, true, false, true≢false, List, length, Option, None, refl, sym, subst, ◌∙◌, Result, Ok, Err, arith, inl, inr}
use Rattle.std.specs.Prelude.{◌==◌, ◌||◌, ◌↔◌, IsOk, OnOk, OnErr, IfOk, if◌then◌else◌}
use Rattle.std.specs.List.{AllByRecursion, list_any}
use Rattle.std.proofs.lemmas.Bool.{eq-eqb, true_from_ne_false}
use Rattle.dmc_types.specs.declared.ids.ClientId.{ClientId}
use Rattle.dmc_types.specs.declared.ids.WorkerId.{WorkerId}
use Rattle.dmc_types.specs.Values.{Params}
use Rattle.dmc_types.specs.declared.command.Command.{Command}
use Rattle.dmc_types.specs.declared.command.Command.TheVariants.{Pull}
use Rattle.dmc_tag.specs.Tag.{Tagging}
use Rattle.dmc_tag.specs.State.{State}
use Rattle.dmc_tag.specs.Step.{outcome}
use Rattle.dmc_tag.specs.declared.reply.Pulled.{Pulled}
use Rattle.dmc_tag.specs.declared.reply.Reply.{Reply}
use Rattle.dmc_history.specs.declared.ReserveFault.{ReserveFault}
use Rattle.dmc_history.specs.declared.ReserveFault.TheVariants as reserve
use Rattle.dmc_pull.specs.Allowed.{is_allowed}
use Rattle.dmc_book.specs.declared.fault.RunFault.{RunFault}
use Rattle.dmc_book.specs.declared.fault.RunFault.TheVariants as run
use Rattle.dmc_book.specs.declared.fault.RunOrRange.{RunOrRange}
use Rattle.dmc_book.specs.declared.fault.RunOrRange.TheVariants as pull
use Rattle.dmc_book.specs.BookState.{BookState, PassState, WorkerSide, no_worker}
use Rattle.dmc_book.specs.Calls.{Asks, HasNoPlace, LacksMemory, Ran, WasPulled, asked, lacks_desk, reply_to, run_cause}
use Rattle.dmc_book.specs.Consistent.{AreWorkersApart, IsReplayed, IsSeated}
use Rattle.dmc_lemmas.proofs.Booleans.{eqb_turned}
use Rattle.dmc_lemmas.proofs.Lists.{all_as}
use Rattle.dmc_book.proofs.RenewingLemmas.{all_there}
use Rattle.dmc_book.specs.Counts.{accepted, is_tagged}
use Rattle.dmc_book.specs.Moves.{IsEnrolled, takes}
use Rattle.dmc_book.specs.internal.Runs.{IsBehind, IsFull, Runs, StraysHere}
use Rattle.dmc_book.proofs.AskLemmas.{strays_by_history}
use Rattle.dmc_book.proofs.Causes.{memory_is_not_full}

-- a pull accepts no stamp
pub no_stamp_in_pull : {T : Type 0} (worker : WorkerId) (at : ℕ) (reply : Reply T) → accepted (record { worker = worker; command = Pull at; reply = reply }) ≡ None
no_stamp_in_pull worker at reply = either_none (is_tagged reply) where
  either_none : (b : Bool) → ◌≡◌ {A = Option (ClientId × Params)} (if b then None else None) None
  either_none true = refl
  either_none false = refl

-- whose pass it is, is enrolled
pub seated_pass : (ws : List WorkerSide) (p : PassState) → IsEnrolled ws p → IsSeated ws p.worker
seated_pass ws p h = subst (IsSeated ws) h.its_worker (there ws p.place h.within) where
  later : (b c : Bool) → c ≡ true → (b || c) ≡ true
  later true c h = refl
  later false c h = h

  there : (ws : List WorkerSide) (i : ℕ) → i < length ws → IsSeated ws (slice_index_or ws i no_worker).worker
  there [] i within = absurd (omega (arith, within))
  there (w ∷ ws) zero within = ap (λ b. b || list_any (λ (x : WorkerSide). w.worker == x.worker) ws) (eq-eqb w.worker w.worker refl)
  there (w ∷ ws) (suc i) within = later _ _ (there ws i (omega (arith, within)))

-- and no worker that was dismissed
pub other_than_left : (ws : List WorkerSide) (p : PassState) → AreWorkersApart ws → IsEnrolled ws p → AllByRecursion (λ w. w.books.calls.open_tills ≡ 0 → (p.worker == w.worker) ≡ false) ws
other_than_left ws p apart its = each ws p.place its.within its.its_worker its.still apart where
  each : (ws : List WorkerSide) (i : ℕ) → i < length ws → (slice_index_or ws i no_worker).worker ≡ p.worker → 0 < (slice_index_or ws i no_worker).books.calls.open_tills
      → AreWorkersApart ws → AllByRecursion (λ w. w.books.calls.open_tills ≡ 0 → (p.worker == w.worker) ≡ false) ws
  each [] i within is still apart = absurd (omega (arith, within))
  each (w ∷ ws) zero within is still apart =
      (λ shut. absurd (omega (arith, shut, still)), all_as (λ (o : WorkerSide). (o.worker == w.worker) ≡ false) (λ (o : WorkerSide). o.books.calls.open_tills ≡ 0 → (p.worker == o.worker) ≡ false) (λ o other shut. eqb_turned p.worker o.worker false (ap (λ (n : ℕ). o.worker == n) (sym is) ∙ other)) ws apart.0)
  each (w ∷ ws) (suc i) within is still apart =
      let inside : i < length ws = omega (arith, within) in
      (λ shut. ap (λ (n : ℕ). n == w.worker) (sym is) ∙ all_there (λ (o : WorkerSide). (o.worker == w.worker) ≡ false) ws i inside apart.0, each ws i inside is still apart.1)

module _ {T : Type 0} (ops : Tagging T) (old : BookState T) (before : PassState) (command : Command) (enrolled : IsEnrolled old.workers before) (has_desk : lacks_desk old.desks command ≡ false) where
  -- no place was reserved
  pub unreserved : (x : ReserveFault) → (x ≡ reserve.HistoryFull) ↔ IsFull ops old before command → (x ≡ reserve.Memory → HasNoPlace old)
      → Runs ops old before command old before (Err (run_cause x))
  unreserved reserve.HistoryFull full no_place = (refl, refl, enrolled, has_desk, full.0 refl)
  unreserved reserve.Memory full no_place = (refl, refl, enrolled, has_desk, (λ f. absurd (memory_is_not_full (full.1 f))), inr (no_place refl))

  -- the queue was not asked, or answered nothing
  pub unasked : (q p : State T) → IsReplayed ops q old.config old.history → length old.history < old.most → (e : RunFault)
      → Asks ops (IsBehind ops old before command) (takes old.desks before.clients before.units) q p command (Err e) → Runs ops old before command old before (Err e)
  unasked q p known fewer run.Stranger a = (refl, refl, λ k. (has_desk, (λ full. omega (arith, fewer, full)), strays_by_history ops (IsBehind ops old before command) (takes old.desks before.clients before.units) q p old.config old.history command known a.1, a.2))
  unasked q p known fewer run.Behind a = (refl, refl, enrolled, has_desk, (λ full. omega (arith, fewer, full)), strays_by_history ops (IsBehind ops old before command) (takes old.desks before.clients before.units) q p old.config old.history command known a.1, a.2)
  unasked q p known fewer run.NoDesk a = absurd a
  unasked q p known fewer run.HistoryFull a = absurd a
  unasked q p known fewer run.Memory a = (refl, refl, enrolled, has_desk, (λ full. omega (arith, fewer, full)), inl (a.0, subst (λ s. IsOk (outcome ops s command)) known.state a.1))

module _ {T : Type 0} (ops : Tagging T) (old new : BookState T) (before later : PassState) (command : Command) where
  pub ran_if_ok : (r : Result (Reply T) RunFault) → Runs ops old before command new later r → IfOk r (λ reply. Ran ops old new before later command reply)
  ran_if_ok (Ok reply) h = h.0
  ran_if_ok (Err e) h = tt

  pub book_kept : (r : Result (Reply T) RunFault) → Runs ops old before command new later r → OnErr r (new ≡ old)
  book_kept (Ok reply) h = tt
  book_kept (Err run.Stranger) h = h.0
  book_kept (Err run.Behind) h = h.0
  book_kept (Err run.NoDesk) h = h.0
  book_kept (Err run.HistoryFull) h = h.0
  book_kept (Err run.Memory) h = h.0

  pub pass_kept : (r : Result (Reply T) RunFault) → Runs ops old before command new later r → OnErr r (later ≡ before)
  pass_kept (Ok reply) h = tt
  pass_kept (Err run.Stranger) h = h.1
  pass_kept (Err run.Behind) h = h.1
  pass_kept (Err run.NoDesk) h = h.1
  pass_kept (Err run.HistoryFull) h = h.1
  pass_kept (Err run.Memory) h = h.1

  pub refused_stranger : (r : Result (Reply T) RunFault) → Runs ops old before command new later r → (IsEnrolled old.workers before → ⊥) → r ≡ Err run.Stranger
  refused_stranger (Ok reply) h none = absurd (none h.1)
  refused_stranger (Err run.Stranger) h none = refl
  refused_stranger (Err run.Behind) h none = absurd (none h.2)
  refused_stranger (Err run.NoDesk) h none = absurd (none h.2)
  refused_stranger (Err run.HistoryFull) h none = absurd (none h.2)
  refused_stranger (Err run.Memory) h none = absurd (none h.2)

  pub strays_if_told : (r : Result (Reply T) RunFault) → Runs ops old before command new later r → r ≡ Err run.Stranger → IsEnrolled old.workers before → StraysHere ops old before command
  strays_if_told (Ok reply) h e enrolled = absurd cc
  strays_if_told (Err run.Stranger) h e enrolled = (h.2 enrolled).2
  strays_if_told (Err run.Behind) h e enrolled = absurd cc
  strays_if_told (Err run.NoDesk) h e enrolled = absurd cc
  strays_if_told (Err run.HistoryFull) h e enrolled = absurd cc
  strays_if_told (Err run.Memory) h e enrolled = absurd cc

  pub stays_if_ok : (r : Result (Reply T) RunFault) → Runs ops old before command new later r → OnOk r (StraysHere ops old before command → ⊥)
  stays_if_ok (Ok reply) h = h.4
  stays_if_ok (Err e) h = tt

  pub not_behind : (r : Result (Reply T) RunFault) → Runs ops old before command new later r → r ≡ Err run.Stranger → IsEnrolled old.workers before → IsBehind ops old before command → ⊥
  not_behind (Ok reply) h e enrolled = absurd cc
  not_behind (Err run.Stranger) h e enrolled = (h.2 enrolled).3
  not_behind (Err run.Behind) h e enrolled = absurd cc
  not_behind (Err run.NoDesk) h e enrolled = absurd cc
  not_behind (Err run.HistoryFull) h e enrolled = absurd cc
  not_behind (Err run.Memory) h e enrolled = absurd cc

  pub behind_if_told : (r : Result (Reply T) RunFault) → Runs ops old before command new later r → r ≡ Err run.Behind
      → IsEnrolled old.workers before × IsBehind ops old before command × StraysHere ops old before command
  behind_if_told (Ok reply) h e = absurd cc
  behind_if_told (Err run.Stranger) h e = absurd cc
  behind_if_told (Err run.Behind) h e = (h.2, h.6, h.5)
  behind_if_told (Err run.NoDesk) h e = absurd cc
  behind_if_told (Err run.HistoryFull) h e = absurd cc
  behind_if_told (Err run.Memory) h e = absurd cc

  pub refused_no_desk : (r : Result (Reply T) RunFault) → Runs ops old before command new later r
      → (r ≡ Err run.NoDesk) ↔ (IsEnrolled old.workers before × (lacks_desk old.desks command ≡ true))
  refused_no_desk (Ok reply) h = (λ e. absurd cc, λ k. absurd (true≢false (sym k.1 ∙ h.2)))
  refused_no_desk (Err run.Stranger) h = (λ e. absurd cc, λ k. absurd (true≢false (sym k.1 ∙ (h.2 k.0).0)))
  refused_no_desk (Err run.Behind) h = (λ e. absurd cc, λ k. absurd (true≢false (sym k.1 ∙ h.3)))
  refused_no_desk (Err run.NoDesk) h = (λ e. (h.2, h.3), λ k. refl)
  refused_no_desk (Err run.HistoryFull) h = (λ e. absurd cc, λ k. absurd (true≢false (sym k.1 ∙ h.3)))
  refused_no_desk (Err run.Memory) h = (λ e. absurd cc, λ k. absurd (true≢false (sym k.1 ∙ h.3)))

  pub refused_full : (r : Result (Reply T) RunFault) → Runs ops old before command new later r
      → (r ≡ Err run.HistoryFull) ↔ (IsEnrolled old.workers before × (lacks_desk old.desks command ≡ false) × IsFull ops old before command)
  refused_full (Ok reply) h = (λ e. absurd cc, λ k. absurd (h.3 k.2))
  refused_full (Err run.Stranger) h = (λ e. absurd cc, λ k. absurd ((h.2 k.0).1 k.2))
  refused_full (Err run.Behind) h = (λ e. absurd cc, λ k. absurd (h.4 k.2))
  refused_full (Err run.NoDesk) h = (λ e. absurd cc, λ k. absurd (true≢false (sym h.3 ∙ k.1)))
  refused_full (Err run.HistoryFull) h = (λ e. (h.2, h.3, h.4), λ k. refl)
  refused_full (Err run.Memory) h = (λ e. absurd cc, λ k. absurd (h.4 k.2))

  pub memory_if_told : (r : Result (Reply T) RunFault) → Runs ops old before command new later r → r ≡ Err run.Memory
      → LacksMemory ops old command
  memory_if_told (Ok reply) h e = absurd cc
  memory_if_told (Err run.Stranger) h e = absurd cc
  memory_if_told (Err run.Behind) h e = absurd cc
  memory_if_told (Err run.NoDesk) h e = absurd cc
  memory_if_told (Err run.HistoryFull) h e = absurd cc
  memory_if_told (Err run.Memory) h e = h.5

-- ---- a pull

-- what is not false
module _ {T : Type 0} (ops : Tagging T) (old new : BookState T) (before later : PassState) (at : ℕ) where
  abbrev Pulls : Result Pulled RunOrRange → Type 0
  Pulls r = Runs ops old before (Pull at) new later (asked r)

  pub was_pulled : (r : Result Pulled RunOrRange) → Pulls r → WasPulled ops old new before later at r
  was_pulled (Ok pulled) h = h.0
  was_pulled (Err pull.Range) h = h.0
  was_pulled (Err (pull.Run run.Stranger)) h = (h.0, h.1, λ e. absurd cc)
  was_pulled (Err (pull.Run run.Behind)) h = (h.0, h.1, λ e. absurd cc)
  was_pulled (Err (pull.Run run.NoDesk)) h = absurd (true≢false (sym h.3))
  was_pulled (Err (pull.Run run.HistoryFull)) h = (h.0, h.1, λ e. absurd cc)
  was_pulled (Err (pull.Run run.Memory)) h = (h.0, h.1, λ e. absurd cc)

  pub pull_told_stranger : (r : Result Pulled RunOrRange) → Pulls r → (IsEnrolled old.workers before → ⊥) → r ≡ Err (pull.Run run.Stranger)
  pull_told_stranger (Ok pulled) h none = absurd (none h.1)
  pull_told_stranger (Err pull.Range) h none = absurd (none h.1)
  pull_told_stranger (Err (pull.Run run.Stranger)) h none = refl
  pull_told_stranger (Err (pull.Run run.Behind)) h none = absurd (none h.2)
  pull_told_stranger (Err (pull.Run run.NoDesk)) h none = absurd (none h.2)
  pull_told_stranger (Err (pull.Run run.HistoryFull)) h none = absurd (none h.2)
  pull_told_stranger (Err (pull.Run run.Memory)) h none = absurd (none h.2)

  pub pull_strays : (r : Result Pulled RunOrRange) → Pulls r → r ≡ Err (pull.Run run.Stranger) → IsEnrolled old.workers before → StraysHere ops old before (Pull at)
  pull_strays (Ok pulled) h e enrolled = absurd cc
  pull_strays (Err pull.Range) h e enrolled = absurd cc
  pull_strays (Err (pull.Run run.Stranger)) h e enrolled = (h.2 enrolled).2
  pull_strays (Err (pull.Run run.Behind)) h e enrolled = absurd cc
  pull_strays (Err (pull.Run run.NoDesk)) h e enrolled = absurd cc
  pull_strays (Err (pull.Run run.HistoryFull)) h e enrolled = absurd cc
  pull_strays (Err (pull.Run run.Memory)) h e enrolled = absurd cc

  pub pull_not_behind : (r : Result Pulled RunOrRange) → Pulls r → r ≡ Err (pull.Run run.Stranger) → IsEnrolled old.workers before → IsBehind ops old before (Pull at) → ⊥
  pull_not_behind r h e = not_behind ops old new before later (Pull at) (asked r) h (ap asked e)

  pub pull_behind : (r : Result Pulled RunOrRange) → Pulls r → r ≡ Err (pull.Run run.Behind)
      → IsEnrolled old.workers before × IsBehind ops old before (Pull at) × StraysHere ops old before (Pull at)
  pull_behind r h e = behind_if_told ops old new before later (Pull at) (asked r) h (ap asked e)

  pub pull_allowed : (r : Result Pulled RunOrRange) → Pulls r → OnOk r (is_allowed (takes old.desks before.clients before.units) (reply_to ops old (Pull at)) ≡ true)
  pull_allowed (Ok pulled) h = true_from_ne_false (is_allowed (takes old.desks before.clients before.units) (reply_to ops old (Pull at))) h.4
  pull_allowed (Err e) h = tt

  pub pull_told_full : (r : Result Pulled RunOrRange) → Pulls r → (r ≡ Err (pull.Run run.HistoryFull)) ↔ (IsEnrolled old.workers before × IsFull ops old before (Pull at))
  pull_told_full (Ok pulled) h = (λ e. absurd cc, λ k. absurd (h.3 k.1))
  pull_told_full (Err pull.Range) h = (λ e. absurd cc, λ k. absurd (h.3 k.1))
  pull_told_full (Err (pull.Run run.Stranger)) h = (λ e. absurd cc, λ k. absurd ((h.2 k.0).1 k.1))
  pull_told_full (Err (pull.Run run.Behind)) h = (λ e. absurd cc, λ k. absurd (h.4 k.1))
  pull_told_full (Err (pull.Run run.NoDesk)) h = absurd (true≢false (sym h.3))
  pull_told_full (Err (pull.Run run.HistoryFull)) h = (λ e. (h.2, h.4), λ k. refl)
  pull_told_full (Err (pull.Run run.Memory)) h = (λ e. absurd cc, λ k. absurd (h.4 k.1))

  pub pull_memory : (r : Result Pulled RunOrRange) → Pulls r → r ≡ Err (pull.Run run.Memory) → HasNoPlace old
  pull_memory r h e = elim (memory_if_told ops old new before later (Pull at) (asked r) h (ap asked e)) [
    | inl grows ↦ absurd (true≢false (sym grows.0))
    | inr none ↦ none
  ]
