-- The reply to a pull that advanced to its moment, as that of the state before.
use Rattle.std.proofs.Common.{◌≡◌, ℕ, Bool, true, false, List, [], ◌∷◌, Option, Some, None, refl, sym, ap, ◌∙◌, subst}
use Rattle.std.specs.Prelude.{Result, Ok, Err, is_err, IfOk}
use Rattle.dmc_types.specs.declared.config.AtLimit.{AtLimit}
use Rattle.dmc_types.specs.declared.config.AtLimit.TheVariants.{Wait, Allow, Reject}
use Rattle.dmc_types.specs.declared.refusal.Refusal.{Refusal}
use Rattle.dmc_tag.specs.Tag.{Tagging}
use Rattle.dmc_tag.specs.State.{State, effective, queued_requests}
use Rattle.dmc_tag.specs.Outcome.{◌>>=◌}
use Rattle.dmc_tag.specs.Answers.{sure_call_reply, pull_reply}
use Rattle.dmc_tag.specs.Best.{Found, best_of_all, by_reservation, by_weight, is_early, is_free, is_any}
use Rattle.dmc_tag.specs.Rules.{Outcome, pulled, pulled_early, pulled_free, nothing_due, at_limit, grant_found, grant_priority, can_grant, taken_out, granted}
use Rattle.dmc_types.specs.declared.config.PhaseType.TheVariants as phases
use Rattle.dmc_tag.specs.Step.{answer_of, step}
use Rattle.dmc_tag.specs.Steps.{Steps}
use Rattle.dmc_types.specs.declared.command.Command.TheVariants.{Pull}
use Rattle.dmc_tag.specs.declared.plain.QueuedRequest.{QueuedRequest}
use Rattle.dmc_tag.specs.declared.reply.Pulled.{Pulled}
use Rattle.dmc_tag.specs.declared.reply.Pulled.TheVariants as pulls
use Rattle.dmc_tag.specs.declared.reply.Reply.{Reply}
use Rattle.dmc_tag.specs.declared.reply.Reply.TheVariants.{Refused}
use Rattle.dmc_types.specs.declared.config.PhaseType.{PhaseType}
use Rattle.dmc_types.specs.declared.ids.ClientId.{ClientId}
use Rattle.dmc_pull.specs.Allowed.{PullsIf, is_allowed}
use Rattle.dmc_pull.specs.internal.Allowed.{SettlesIf}
use Rattle.dmc_pull.specs.internal.Choice.{Settles}
use Rattle.dmc_pull.specs.declared.granting.PullFault.{PullFault}
use Rattle.dmc_pull.specs.declared.granting.PullFault.TheVariants as faults

module _ {T : Type 0} (ops : Tagging T) (s : State T) (t : ℕ) where
  abbrev on : State T
  on = record s { last_moment = t }

  -- ---- the rules at a moment don't read the last one

  found_same : (beyond : Bool) (o : Option (Found T)) → grant_found ops on t beyond o ≡ grant_found ops s t beyond o
  found_same beyond None = refl
  found_same beyond (Some found) = refl

  limit_same : (a : AtLimit) (x : QueuedRequest T) (xs : List (QueuedRequest T)) → at_limit ops on t a x xs ≡ at_limit ops s t a x xs
  limit_same Wait x xs = refl
  limit_same (Reject threshold) x xs = refl
  limit_same Allow x xs = found_same true (best_of_all ops by_weight is_any s.clients)

  due_same : (xs : List (QueuedRequest T)) → nothing_due ops on t xs ≡ nothing_due ops s t xs
  due_same [] = refl
  due_same (x ∷ xs) = limit_same s.config.at_limit x xs

  pub free_same : (o : Option (Found T)) → pulled_free ops on t o ≡ pulled_free ops s t o
  free_same (Some found) = refl
  free_same None = due_same (queued_requests s.clients)

  -- ---- the reply of a pull that is done is no refusal

  abbrev IsUnrefused : Outcome T → Type 0
  IsUnrefused o = IfOk o (λ a. (e : Refusal) → a.1 ≡ Refused e → ⊥)

  priority_unrefused : (found : Found T) (beyond : Bool) → IsUnrefused (grant_priority ops s t found beyond)
  priority_unrefused found beyond = at (can_grant ops s.config.hz found) where
    at : (x : Result (Option T) Refusal) → IsUnrefused (x >>= λ amount. Ok (taken_out ops s t found phases.Priority amount, granted found phases.Priority beyond))
    at (Ok amount) = λ e k. cc
    at (Err fault) = tt

  found_unrefused : (beyond : Bool) (o : Option (Found T)) → IsUnrefused (grant_found ops s t beyond o)
  found_unrefused beyond None = λ e k. cc
  found_unrefused beyond (Some found) = priority_unrefused found beyond

  limit_unrefused : (a : AtLimit) (x : QueuedRequest T) (xs : List (QueuedRequest T)) → IsUnrefused (at_limit ops s t a x xs)
  limit_unrefused Wait x xs = λ e k. cc
  limit_unrefused (Reject threshold) x xs = λ e k. cc
  limit_unrefused Allow x xs = found_unrefused true (best_of_all ops by_weight is_any s.clients)

  due_unrefused : (xs : List (QueuedRequest T)) → IsUnrefused (nothing_due ops s t xs)
  due_unrefused [] = λ e k. cc
  due_unrefused (x ∷ xs) = limit_unrefused s.config.at_limit x xs

  pub free_unrefused : (o : Option (Found T)) → IsUnrefused (pulled_free ops s t o)
  free_unrefused (Some found) = priority_unrefused found false
  free_unrefused None = due_unrefused (queued_requests s.clients)

  -- ---- from the state at the moment to the one before

  never_refused : (x : Pulled) (e : Refusal) {P : Type 0} → pull_reply {T = T} x ≡ Refused e → P
  never_refused (pulls.Returning c k p b n) e h = cc
  never_refused (pulls.Future m) e h = cc
  never_refused pulls.Nothing e h = cc

  done : (o : Outcome T) (new : State T) (x : Pulled) → Settles on new o (Some (pull_reply x)) → Settles s new o (Some (pull_reply x))
  done (Ok a) new x h = h
  done (Err e) new x h = never_refused x e (ap (λ p. p.1) h)

  pub answered : (o : Outcome T) (answer : Result Pulled Refusal) (new : State T) → is_err answer ≡ false → Settles on new o (sure_call_reply pull_reply answer) → Settles s new o (sure_call_reply pull_reply answer)
  answered o (Ok x) new n h = done o new x h
  answered o (Err e) new n h = cc

  back : (o : Outcome T) (e : Refusal) (new : State T) → IsUnrefused o → Settles on new o (Some (Refused e)) → Settles s (record new { last_moment = s.last_moment }) o (Some (Refused e))
  back (Ok a) e new unrefused h = absurd (unrefused e (sym (ap (λ p. p.1) h)))
  back (Err r) e new unrefused h =
      let state : record new { last_moment = s.last_moment } ≡ s = ap (λ p. record (p.0) { last_moment = s.last_moment }) h in
      λ i. (state i, (h i).1)

  pub went_back : (o : Outcome T) (answer : Result Pulled Refusal) (new : State T) → is_err answer ≡ true → IsUnrefused o → Settles on new o (sure_call_reply pull_reply answer) → Settles s (record new { last_moment = s.last_moment }) o (sure_call_reply pull_reply answer)
  went_back o (Ok x) new n unrefused h = cc
  went_back o (Err e) new n unrefused h = back o e new unrefused h

module _ {T : Type 0} (ops : Tagging T) (s new : State T) (at t : ℕ) (e : t ≡ effective s at) (none : best_of_all ops by_reservation (is_early ops t) s.clients ≡ None) where
  abbrev pub free : State T → Option (Found T)
  free v = best_of_all ops by_weight (is_free ops v.last_moment) v.clients

  pull_is : answer_of s (pulled_free ops s t (best_of_all ops by_weight (is_free ops t) s.clients)) ≡ step ops s (Pull at)
  pull_is = ap (λ o. answer_of s (pulled_early ops s t o)) (sym none) ∙ ap (λ n. answer_of s (pulled ops s n)) e

  exactly_when : (reply : Option (Reply T)) (after : State T) → Settles s after (pulled_free ops s t (best_of_all ops by_weight (is_free ops t) s.clients)) reply → Steps ops s after (Pull at) reply
  exactly_when (Some reply) after h = h ∙ pull_is
  exactly_when None after h = absurd h

  -- the reply of the state that advanced to the moment
  module _ (went : State T) (went_is : went ≡ record s { last_moment = t }) (answer : Result Pulled Refusal) (h : Settles went new (pulled_free ops went went.last_moment (free went)) (sure_call_reply pull_reply answer)) where
    on_moment : Settles (record s { last_moment = t }) new (pulled_free ops s t (best_of_all ops by_weight (is_free ops t) s.clients)) (sure_call_reply pull_reply answer)
    on_moment =
        subst (λ o. Settles (record s { last_moment = t }) new o (sure_call_reply pull_reply answer)) (free_same ops s t (best_of_all ops by_weight (is_free ops t) s.clients))
        (subst (λ v. Settles v new (pulled_free ops v v.last_moment (free v)) (sure_call_reply pull_reply answer)) went_is h)

    pub pulled_on : is_err answer ≡ false → Steps ops s new (Pull at) (sure_call_reply pull_reply answer)
    pulled_on n = exactly_when (sure_call_reply pull_reply answer) new (answered ops s t (pulled_free ops s t (best_of_all ops by_weight (is_free ops t) s.clients)) answer new n on_moment)

    pub refused_on : is_err answer ≡ true → (after : State T) → after ≡ record new { last_moment = s.last_moment } → Steps ops s after (Pull at) (sure_call_reply pull_reply answer)
    refused_on n after a = subst (λ v. Steps ops s v (Pull at) (sure_call_reply pull_reply answer)) (sym a) (exactly_when (sure_call_reply pull_reply answer) (record new { last_moment = s.last_moment }) (went_back ops s t (pulled_free ops s t (best_of_all ops by_weight (is_free ops t) s.clients)) answer new n (free_unrefused ops s t (best_of_all ops by_weight (is_free ops t) s.clients)) on_moment))

  -- ---- with a test

  module _ (allows : ClientId → PhaseType → Bool) (went : State T) (went_is : went ≡ record s { last_moment = t }) where
    -- what is granted by P in a state, or when something is due
    abbrev weighed : State T → Outcome T
    weighed v = pulled_free ops v v.last_moment (free v)

    pub pulled_if : (answer : Result Pulled PullFault) → SettlesIf allows went new (pulled_free ops went went.last_moment (free went)) answer → is_err answer ≡ false → PullsIf allows ops s new at answer
    pulled_if (Ok x) h n = (pulled_on went went_is (Ok x) h.0 refl, h.1)
    pulled_if (Err fault) h n = cc

    same_reply : (v : State T) (o : Outcome T) → (answer_of v o).1 ≡ (answer_of s o).1
    same_reply v (Ok answer) = refl
    same_reply v (Err refusal) = refl

    reply_is : (answer_of went (weighed went)).1 ≡ (step ops s (Pull at)).1
    reply_is =
        ap (λ v. (answer_of v (weighed v)).1) went_is
        ∙ same_reply (record s { last_moment = t }) (weighed (record s { last_moment = t }))
        ∙ ap (λ o. (answer_of s o).1) (free_same ops s t (best_of_all ops by_weight (is_free ops t) s.clients))
        ∙ ap (λ p. p.1) pull_is

    pub back_if : (answer : Result Pulled PullFault) → SettlesIf allows went new (pulled_free ops went went.last_moment (free went)) answer → is_err answer ≡ true → (after : State T) → after ≡ record new { last_moment = s.last_moment } → PullsIf allows ops s after at answer
    back_if (Ok x) h n after a = cc
    back_if (Err (faults.Refused refusal)) h n after a = refused_on went went_is (Err refusal) h refl after a
    back_if (Err faults.Declined) h n after a = (a ∙ ap {A = State T} (λ v. record v { last_moment = s.last_moment }) (h.0 ∙ went_is), ap (is_allowed allows) (sym reply_is) ∙ h.1)
