-- One more event of a replay.
use Rattle.std.proofs.Common.{◌≡◌, ℕ, zero, suc, ◌+◌, ◌<◌, ◌≤◌, Bool, true, false, List, [], ◌∷◌, ◌++◌, length, length-append, take, map, Option, Some, None, is_some, refl, sym, ap, subst, ◌∙◌, arith}
use Rattle.std.specs.Prelude.{slice_get, ◌↔◌}
use Rattle.std.proofs.lemmas.List.{take-append-le, take_all, take_more}
use Rattle.std.proofs.lemmas.Option.{slice_get_within, get_or_from_slice_get}
use Rattle.dmc_types.specs.Values.{Setting}
use Rattle.dmc_tag.specs.Tag.{Tagging}
use Rattle.dmc_tag.specs.State.{State, opening}
use Rattle.dmc_tag.specs.Step.{step}
use Rattle.dmc_tag.specs.Replay.{state_after, replays_from, after, replays}
use Rattle.dmc_tag.specs.declared.event.Event.{Event}
use Rattle.dmc_tag.proofs.ForCallers.{after_one_more, replays_one_more}
use Rattle.dmc_lemmas.proofs.Lists.{slice_get-append, slice_get-push}
use Rattle.dmc_pull.specs.Queue.{state_of}
use Rattle.dmc_check.specs.Verdicts.{DiffersAt, IsVerdict, SoFar, RepresentsEvents}
use Rattle.dmc_check.specs.internal.Verdicts.{ReplaysNext, verdict_of}
use Rattle.dmc_check.specs.declared.replay.Replay.{Replay}
use Rattle.dmc_check.specs.declared.check.Verdict.{Verdict}
use Rattle.dmc_check.specs.declared.check.Verdict.TheVariants.{Replays, Differs}

pub none_within : {A : Type 0} (xs : List A) (i : ℕ) → i < length xs → slice_get xs i ≡ None → ⊥
none_within [] i within h = absurd (omega (arith, within))
none_within (x ∷ xs) zero within h = absurd (cc)
none_within (x ∷ xs) (suc i) within h = none_within xs i (omega (arith, within)) h

pub taken_next : {E : Type 0} (all : List E) (i : ℕ) (e : E) → slice_get all i ≡ Some e → take (i + 1) all ≡ take i all ++ e ∷ []
taken_next all i e at = take_more all i e (slice_get_within all i e at) ∙ ap (λ d. take i all ++ d ∷ []) (get_or_from_slice_get all i e e at)

module _ {T : Type 0} (ops : Tagging T) where
  at_from : (s : State T) (events : List (Event T)) (i : ℕ) (e : Event T) → replays_from ops s events → slice_get events i ≡ Some e → e.reply ≡ (step ops (state_after ops s (map (λ e. e.command) (take i events))) e.command).1
  at_from s [] i e h k = absurd (cc)
  at_from s (d ∷ events) zero e h k = let same : d ≡ e = cc in subst (λ x. x.reply ≡ (step ops s x.command).1) same h.0
  at_from s (d ∷ events) (suc i) e h k = at_from ((step ops s d.command).0) events i e h.1 k

  -- what replays differs nowhere
  pub no_difference : (config : Setting) (events : List (Event T)) (i : ℕ) → DiffersAt ops config events i → replays ops config events → ⊥
  no_difference config events i d h = d.other (at_from (opening ops config) events i d.event h d.at)

  -- a difference stays the first
  pub differs_on : (config : Setting) (events more : List (Event T)) (i : ℕ) → DiffersAt ops config events i → DiffersAt ops config (events ++ more) i
  differs_on config events more i d =
      let within : i < length events = slice_get_within events i d.event d.at in
      let same : take i (events ++ more) ≡ take i events = take-append-le i events more (omega (arith, within)) in
      record {
        event = d.event;
        at = slice_get-append events more i d.event d.at;
        before = subst (replays ops config) (sym same) d.before;
        other = subst (λ es. d.event.reply ≡ (step ops (after ops config es) d.event.command).1 → ⊥) (sym same) d.other;
      }

  pub differs_now : (config : Setting) (events : List (Event T)) (e : Event T) → replays ops config events → (e.reply ≡ (step ops (after ops config events) e.command).1 → ⊥) → DiffersAt ops config (events ++ e ∷ []) (length events)
  differs_now config events e h other =
      let same : take (length events) (events ++ e ∷ []) ≡ events = take-append-le (length events) events (e ∷ []) (omega arith) ∙ take_all (length events) events (omega arith) in
      record {
        event = e;
        at = slice_get-push events e;
        before = subst (replays ops config) (sym same) h;
        other = subst (λ es. e.reply ≡ (step ops (after ops config es) e.command).1 → ⊥) (sym same) other;
      }

  -- a replay's verdict is that of its events
  pub verdict_by : (config : Setting) (events : List (Event T)) (s : State T) (difference : Option ℕ) → SoFar ops config events s difference → IsVerdict ops config events (verdict_of difference)
  verdict_by config events s None h = h.0
  verdict_by config events s (Some i) h = h

  pub replays_exactly : (config : Setting) (events : List (Event T)) (v : Verdict) → IsVerdict ops config events v → (v ≡ Replays) ↔ replays ops config events
  replays_exactly config events Replays h = (λ _. h, λ _. refl)
  replays_exactly config events (Differs i) h = (λ e. absurd (cc), λ k. absurd (no_difference config events i h k))

  -- ---- the replayer

  -- a queue that still holds the state
  so_far_kept : (config : Setting) (events : List (Event T)) (s new : State T) (difference : Option ℕ) → new ≡ s
      → SoFar ops config events s difference → SoFar ops config events new difference
  so_far_kept config events s new None k h = (h.0, k ∙ h.1)
  so_far_kept config events s new (Some i) k h = h

  pub represents_kept : (config : Setting) (events : List (Event T)) (old new : Replay T) → new.events ≡ old.events → new.difference ≡ old.difference
      → state_of new.queue ≡ state_of old.queue → RepresentsEvents ops config events old → RepresentsEvents ops config events new
  represents_kept config events old new count same k h = record {
    count = count ∙ h.count;
    so_far = subst (SoFar ops config events (state_of new.queue)) (sym same) (so_far_kept config events (state_of old.queue) (state_of new.queue) old.difference k h.so_far);
  }

  -- what replays has no difference, and the queue holds the state after it
  pub no_difference_yet : (config : Setting) (events : List (Event T)) (replay : Replay T) → RepresentsEvents ops config events replay → (replay.difference ≡ None) ↔ replays ops config events
  no_difference_yet config events replay h = by replay.difference h.so_far
    where
      by : (difference : Option ℕ) → SoFar ops config events (state_of replay.queue) difference → (difference ≡ None) ↔ replays ops config events
      by None k = (λ e. k.0, λ r. refl)
      by (Some i) k = (λ e. absurd (cc), λ r. absurd (no_difference config events i k r))

  pub queue_holds : (config : Setting) (events : List (Event T)) (replay : Replay T) → RepresentsEvents ops config events replay → replay.difference ≡ None → state_of replay.queue ≡ after ops config events
  queue_holds config events replay h none = (subst (SoFar ops config events (state_of replay.queue)) none h.so_far).1

  -- an event behind the first difference
  pub later_event : (config : Setting) (events : List (Event T)) (e : Event T) (s : State T) (difference : Option ℕ) → true ≡ is_some difference
      → SoFar ops config events s difference → SoFar ops config (events ++ e ∷ []) s difference
  later_event config events e s None some h = absurd (cc)
  later_event config events e s (Some i) some h = differs_on config events (e ∷ []) i h

  -- before the first difference
  pub none_yet : (config : Setting) (events : List (Event T)) (s : State T) (difference : Option ℕ) → false ≡ is_some difference
      → SoFar ops config events s difference → SoFar ops config events s None
  none_yet config events s None none h = h
  none_yet config events s (Some i) none h = absurd (cc)

  -- the reply to an event is the recorded one
  pub same_event : (config : Setting) (events : List (Event T)) (e : Event T) (s new : State T) (same : Bool) → same ≡ true → SoFar ops config events s None
      → ReplaysNext ops s new e same
      → SoFar ops config (events ++ e ∷ []) new None
  same_event config events e s new same is h k =
      let now = subst (λ u. ReplaysNext ops u new e same) h.1 k in
      (replays_one_more ops config events e h.0 (now.reply.0 is), now.state ∙ sym (after_one_more ops config events e))

  -- or otherwise
  pub other_event : (config : Setting) (events : List (Event T)) (e : Event T) (s new : State T) (n : ℕ) (same : Bool) → same ≡ false → n ≡ length events → SoFar ops config events s None
      → ReplaysNext ops s new e same
      → DiffersAt ops config (events ++ e ∷ []) n
  other_event config events e s new n same is count h k =
      let now = subst (λ u. ReplaysNext ops u new e same) h.1 k in
      subst (DiffersAt ops config (events ++ e ∷ [])) (sym count)
      (differs_now config events e h.0 (λ recorded. let yes : same ≡ true = now.reply.1 recorded in let no : false ≡ true = sym is ∙ yes in absurd (cc)))

  -- one more event is there
  pub represents_more : (config : Setting) (events : List (Event T)) (e : Event T) (old new : Replay T) → RepresentsEvents ops config events old → new.events ≡ suc old.events
      → SoFar ops config (events ++ e ∷ []) (state_of new.queue) new.difference → RepresentsEvents ops config (events ++ e ∷ []) new
  represents_more config events e old new h count so_far = record {
    count = count ∙ ap suc h.count ∙ sym (length-append events (e ∷ []) ∙ one_more (length events));
    so_far = so_far;
  }
    where
      one_more : (n : ℕ) → n + 1 ≡ suc n
      one_more n = omega arith

  -- the next event of a list
  pub represents_next : (config : Setting) (all : List (Event T)) (i : ℕ) (e : Event T) (replay : Replay T) → slice_get all i ≡ Some e
      → RepresentsEvents ops config (take i all ++ e ∷ []) replay → RepresentsEvents ops config (take (i + 1) all) replay
  represents_next config all i e replay at h = subst (λ es. RepresentsEvents ops config es replay) (sym (taken_next all i e at)) h

  -- all events of a list
  pub verdict_is : (config : Setting) (all : List (Event T)) (i : ℕ) (replay : Replay T) → length all ≤ i → RepresentsEvents ops config (take i all) replay → IsVerdict ops config all (verdict_of replay.difference)
  verdict_is config all i replay past h =
      let whole : take i all ≡ all = take_all i all past in
      subst (λ es. IsVerdict ops config es (verdict_of replay.difference)) whole (verdict_by config (take i all) (state_of replay.queue) replay.difference h.so_far)
