-- Whose requests are queued after a command, who is idle, and whose request it grants.
use Rattle.std.proofs.Common.{◌≡◌, ℕ, Bool, true, false, not, ◌||◌, List, [], ◌∷◌, ◌++◌, map, length, Option, Some, None, Result, Ok, Err, refl, sym, ap, ◌∙◌, subst, inl, inr, ⊎_elim}
use Rattle.std.specs.Prelude.{◌⊎◌, ◌-◌, ◌==◌, ◌&&◌, nat_le, filter, if◌then◌else◌}
use Rattle.std.specs.Cmp.{IsTotalOrder}
use Rattle.std.specs.List.{AllByRecursion}
use Rattle.std.proofs.lemmas.Bool.{eq-eqb}
use Rattle.dmc_types.specs.Values.{Setting}
use Rattle.dmc_types.specs.declared.ids.ClientId.{ClientId}
use Rattle.dmc_types.specs.declared.ids.Token.{Token}
use Rattle.dmc_types.specs.declared.config.PhaseType.{PhaseType}
use Rattle.dmc_types.specs.declared.config.PhaseType.TheVariants as phases
use Rattle.dmc_types.specs.declared.refusal.Refusal.{Refusal}
use Rattle.dmc_types.specs.declared.command.Command.{Command}
use Rattle.dmc_types.specs.declared.command.Command.TheVariants.{Register, Update, Add, Pull, Remove, Cancel, Clean}
use Rattle.dmc_tag.specs.Tag.{Tagging, Fraction, IsExact}
use Rattle.dmc_tag.specs.Outcome.{◌>>=◌}
use Rattle.dmc_tag.specs.State.{State, PlainClient, opening, effective, is_client, is_active, is_busy, has_queued}
use Rattle.dmc_tag.specs.Queued.{AreActive, is_add_of}
use Rattle.dmc_tag.specs.Rules as rules_of
use Rattle.dmc_tag.specs.Rules.{Outcome, change_client}
use Rattle.dmc_tag.specs.Cancel.{staying, no_befores, without_token, charged_to}
use Rattle.dmc_tag.specs.Step.{answer_of, step}
use Rattle.dmc_tag.specs.Replay.{after, state_after}
use Rattle.dmc_tag.specs.declared.event.Event.{Event}
use Rattle.dmc_tag.specs.Laws.{Grants, Pulls}
use Rattle.dmc_tag.specs.declared.plain.QueuedRequest.{QueuedRequest}
use Rattle.dmc_tag.specs.declared.plain.Slack.{Slack}
use Rattle.dmc_tag.specs.declared.reply.Reply.{Reply}
use Rattle.dmc_tag.specs.declared.reply.Reply.TheVariants.{Registered, Updated, Tagged, Granted, Later, Nothing, Removed, Cleaned, Refused}
use Rattle.dmc_tag.proofs.Active.{either, filled, same_client, both, IsBusyAs, IsActive, is_busy_with, empty_if_not_busy, queued_mapped, queued_filtered, queued_with_idle, queued_at, queued_are_active, shifted_active, shifted_busy, granted_id, granted_idle}
use Rattle.dmc_lemmas.proofs.Lists.{all_as, all_filtered, all_mapped, all_next, all_at}
use Rattle.dmc_tag.proofs.PullLaw.{pull_says}

module _ {T : Type 0} (ops : Tagging T) (s : State T) where
  -- the client had a queued request, or the command is its Add
  abbrev Comes : Command → ClientId → Type 0
  Comes command id = (has_queued id s.clients ≡ true) ⊎ (is_add_of id command ≡ true)

  -- what a command's state and reply keep of who has a queued request
  record Keeps (command : Command) (new : State T) (reply : Reply T) : Type 0 where
    comes : (id : ClientId) → has_queued id new.clients ≡ true → Comes command id
    active : AreActive s.clients → AreActive new.clients
    granted : (client : ClientId) (token : Token) (phase : PhaseType) (beyond : Bool) (cost : ℕ) → reply ≡ Granted client token phase beyond cost → has_queued client s.clients ≡ true

  abbrev Settles : Command → State T × Reply T → Type 0
  Settles command answer = Keeps command answer.0 answer.1

  chained : {X : Type 0} (command : Command) (r : Result X Refusal) (f : X → Outcome T) → ((x : X) → r ≡ Ok x → Settles command (answer_of s (f x))) → Settles command (answer_of s (r >>= f))
  chained command (Ok x) f h = h x refl
  chained command (Err e) f h = record { comes = λ id q. inl q; active = λ a. a; granted = λ client token phase beyond cost e. cc }

  -- each client is changed so that it has no request that it had not, and is idle only with nothing queued
  changed : (command : Command) (f : PlainClient T → PlainClient T) → ((id : ClientId) (c : PlainClient T) → IsBusyAs id (f c) → IsBusyAs id c ⊎ Comes command id) → ((c : PlainClient T) → IsActive c → IsActive (f c)) → (new : State T) (reply : Reply T) → new.clients ≡ map f s.clients → ((client : ClientId) (token : Token) (phase : PhaseType) (beyond : Bool) (cost : ℕ) → reply ≡ Granted client token phase beyond cost → ⊥) → Keeps command new reply
  changed command f busy active new reply e other = record {
    comes = λ id q. ⊎_elim (λ h. inl h) (λ h. h) (queued_mapped (Comes command id) id f (busy id) s.clients (sym (ap (λ cs. has_queued id cs) e) ∙ q));
    active = λ a. subst AreActive (sym e) (all_mapped IsActive IsActive f active s.clients a);
    granted = λ client token phase beyond cost g. absurd (other client token phase beyond cost g);
  }

  -- ---- a pull

  moved : (at t : ℕ) (new : State T) (reply : Reply T) → new ≡ record s { last_moment = t } → ((client : ClientId) (token : Token) (phase : PhaseType) (beyond : Bool) (cost : ℕ) → reply ≡ Granted client token phase beyond cost → ⊥) → Keeps (Pull at) new reply
  moved at t new reply e other = subst (λ u. Keeps (Pull at) u reply) (sym e) (record { comes = λ id q. inl q; active = λ a. a; granted = λ client token phase beyond cost g. absurd (other client token phase beyond cost g) })

  granting : (at t : ℕ) (phase : PhaseType) (beyond : Bool) (cost : ℕ) (tag : QueuedRequest T → Option T) (member : QueuedRequest T → Bool) (new : State T) (client : ClientId) (token : Token) → Grants ops t phase tag member s new client token cost → Keeps (Pull at) new (Granted client token phase beyond cost)
  granting at t phase beyond cost tag member new client token g = record {
    comes = λ id q. ⊎_elim (λ h. inl h) (λ h. inl h) (queued_mapped (has_queued id s.clients ≡ true) id f (was_queued id) s.clients (sym (ap (λ (u : State T). has_queued id u.clients) g.state_is) ∙ q));
    active = λ a. subst (λ (u : State T). AreActive u.clients) (sym g.state_is) (all_mapped IsActive IsActive f (λ c h. either IsActive (is_client g.found.client.id c.id) _ c (never_idle a) h) s.clients a);
    granted = λ other _ _ _ _ e.
        let same : g.found.client.id ≡ other = cc (g.client_is) in
        subst (λ id. has_queued id s.clients ≡ true) same found_queued;
  } where
    f : PlainClient T → PlainClient T
    f c = if is_client g.found.client.id c.id then rules_of.after_grant ops g.found g.reduction else c

    found_busy : is_busy g.found.client ≡ true
    found_busy = is_busy_with g.found.client g.best.own.front g.found.request g.best.own.back g.best.own.whole

    found_queued : has_queued g.found.client.id s.clients ≡ true
    found_queued = ap (has_queued g.found.client.id) g.best.whole ∙ queued_at g.best.front g.found.client g.best.back found_busy

    -- who has a request after it had one before
    was_queued : (id : ClientId) (c : PlainClient T) → IsBusyAs id (f c) → IsBusyAs id c ⊎ (has_queued id s.clients ≡ true)
    was_queued id c = either (λ d. IsBusyAs id d → IsBusyAs id c ⊎ (has_queued id s.clients ≡ true)) (is_client g.found.client.id c.id) (rules_of.after_grant ops g.found g.reduction) c
        (λ h. inr (subst (λ other. has_queued other s.clients ≡ true) (same_client id g.found.client.id (sym (ap (is_client id) (granted_id ops g.found g.reduction)) ∙ (both _ _ h).0)) found_queued))
        (λ h. inl h)

    -- the granted client had a request, so it was not idle
    never_idle : AreActive s.clients → IsActive (rules_of.after_grant ops g.found g.reduction)
    never_idle a e =
        let of_found : IsActive g.found.client = all_at IsActive g.best.front g.found.client g.best.back (subst AreActive g.best.whole a) in
        let none : is_busy g.found.client ≡ false = ap (λ xs. not (length xs == 0)) (of_found (sym (granted_idle ops g.found g.reduction) ∙ e)) in
        absurd (clash (sym none ∙ found_busy))
      where
        clash : false ≡ true → ⊥
        clash e = cc

  pulling : (at t : ℕ) (new : State T) (reply : Reply T) → Pulls ops t s new reply → Keeps (Pull at) new reply
  pulling at t new (Granted client token phases.Reservation beyond cost) p = granting at t phases.Reservation beyond cost _ _ new client token p.1
  pulling at t new (Granted client token phases.Priority false cost) p = granting at t phases.Priority false cost _ _ new client token p.1
  pulling at t new (Granted client token phases.Priority true cost) p = granting at t phases.Priority true cost _ _ new client token p.3
  pulling at t new (Later m) p = moved at t new (Later m) p.4 (λ client token phase beyond cost e. cc)
  pulling at t new Nothing p = moved at t new Nothing p.1 (λ client token phase beyond cost e. cc)
  pulling at t new (Refused refusal) p = moved at s.last_moment new (Refused refusal) p.1 (λ client token phase beyond cost e. cc)
  pulling at t new Registered p = absurd p
  pulling at t new Updated p = absurd p
  pulling at t new (Tagged tags) p = absurd p
  pulling at t new (Removed count) p = absurd p
  pulling at t new (Cleaned idled erased) p = absurd p

  -- ---- an add

  -- the clients after the shift of an add
  shift_keeps : (shift : Option T) (id : ClientId) → has_queued id (rules_of.shifted_by ops shift s.clients) ≡ true → has_queued id s.clients ≡ true
  shift_keeps None id q = q
  shift_keeps (Some amount) id q = ⊎_elim (λ h. h) (λ h. h) (queued_mapped (has_queued id s.clients ≡ true) id (rules_of.shifted_client ops amount) (λ c h. inl (shifted_busy ops id amount c h)) s.clients q)

  shift_active : (shift : Option T) → AreActive s.clients → AreActive (rules_of.shifted_by ops shift s.clients)
  shift_active None a = a
  shift_active (Some amount) a = all_mapped IsActive IsActive (rules_of.shifted_client ops amount) (shifted_active ops amount) s.clients a

  arriving : (id : ClientId) (token : Token) (params : _) (at : ℕ) (shift : Option T) (request : QueuedRequest T) (reply : Reply T) → ((client : ClientId) (token : Token) (phase : PhaseType) (beyond : Bool) (cost : ℕ) → reply ≡ Granted client token phase beyond cost → ⊥) → Keeps (Add id token params at) (rules_of.queued ops s shift id request (effective s at)) reply
  arriving id token params at shift request reply other = record {
    comes = λ c q. ⊎_elim (λ h. inl (shift_keeps shift c h)) (λ h. inr h) (queued_mapped (is_client c id ≡ true) c f (was_queued c) (rules_of.shifted_by ops shift s.clients) q);
    active = λ a. all_mapped IsActive IsActive f (λ c h. either IsActive (is_client id c.id) (rules_of.after_arrival request (effective s at) c) c (λ e. cc) h) (rules_of.shifted_by ops shift s.clients) (shift_active shift a);
    granted = λ client token phase beyond cost g. absurd (other client token phase beyond cost g);
  } where
    f : PlainClient T → PlainClient T
    f c = if is_client id c.id then rules_of.after_arrival request (effective s at) c else c

    was_queued : (other : ClientId) (c : PlainClient T) → IsBusyAs other (f c) → IsBusyAs other c ⊎ (is_client other id ≡ true)
    was_queued other c = by (is_client id c.id) refl where
      by : (b : Bool) → is_client id c.id ≡ b → IsBusyAs other (if b then rules_of.after_arrival request (effective s at) c else c) → IsBusyAs other c ⊎ (is_client other id ≡ true)
      by true e h = inr (subst (λ i. is_client other i ≡ true) (same_client id c.id e) (both _ _ h).0)
      by false e h = inl h

  -- ---- each command

  keeps : (fraction : T → Fraction) (is_value : Fraction → Type 0) → IsExact ops fraction is_value → IsTotalOrder ops.compare → (command : Command) → Settles command (step ops s command)
  keeps fraction is_value exact order (Register id info at) = chained (Register id info at) (rules_of.can_register ops s id info) _ (λ _ _. record {
    comes = λ c q. inl (queued_with_idle c s.clients _ refl q);
    active = λ a. all_next IsActive s.clients _ a (λ _. refl);
    granted = λ client token phase beyond cost e. cc;
  })
  keeps fraction is_value exact order (Update id info at) = chained (Update id info at) (rules_of.can_update ops s id info) _ (λ _ _.
      changed (Update id info at) (λ c. if is_client id c.id then rules_of.with_info info c else c)
      (λ other c. either (λ d. IsBusyAs other d → IsBusyAs other c ⊎ Comes (Update id info at) other) (is_client id c.id) (rules_of.with_info info c) c (λ h. inl h) (λ h. inl h))
      (λ c h. either IsActive (is_client id c.id) (rules_of.with_info info c) c h h) _ _ refl (λ client token phase beyond cost e. cc))
  keeps fraction is_value exact order (Add id token params at) = chained (Add id token params at) (rules_of.can_add ops s id params _) _ (λ added _.
      arriving id token params at added.shift (rules_of.request_of token params.cost added) (Tagged added.tags) (λ client token phase beyond cost e. cc))
  keeps fraction is_value exact order (Pull at) = pulling at (effective s at) _ _ (pull_says ops fraction is_value exact order (effective s at) s)
  keeps fraction is_value exact order (Remove id) = chained (Remove id) (rules_of.can_remove s id) _ (λ _ _.
      changed (Remove id) (λ c. if is_client id c.id then rules_of.with_requests [] c else c)
      (λ other c. either (λ d. IsBusyAs other d → IsBusyAs other c ⊎ Comes (Remove id) other) (is_client id c.id) (rules_of.with_requests [] c) c (λ h. absurd (nothing _ h)) (λ h. inl h))
      (λ c h. either IsActive (is_client id c.id) (rules_of.with_requests [] c) c (λ _. refl) h) _ _ refl (λ client token phase beyond cost e. cc))
    where
      nothing : (b : Bool) → (b && false) ≡ true → ⊥
      nothing true e = cc
      nothing false e = cc
  keeps fraction is_value exact order (Cancel id token counting) = chained (Cancel id token counting) (rules_of.can_remove s id) _ (λ _ _.
      changed (Cancel id token counting) (λ c. if is_client id c.id then without c else c)
      (λ other c. either (λ d. IsBusyAs other d → IsBusyAs other c ⊎ Comes (Cancel id token counting) other) (is_client id c.id) (without c) c
      (λ h. inl (busier (is_client other c.id) _ _ (stayed (charged c) c.requests) h)) (λ h. inl h))
      (λ c h. either IsActive (is_client id c.id) (without c) c (λ e. ap (staying ops token (charged c) no_befores) (h e)) h) _ _ refl (λ client token phase beyond cost e. cc))
    where
      charged : PlainClient T → ℕ → Slack T
      charged c = charged_to ops s.config.hz counting c

      without : PlainClient T → PlainClient T
      without c = without_token ops token (charged c) c

      busier : (b x y : Bool) → (x ≡ true → y ≡ true) → (b && x) ≡ true → (b && y) ≡ true
      busier true x y f h = f h
      busier false x y f h = h

      -- who has a request that stays had one before
      stayed : (charged : ℕ → Slack T) (rs : List (QueuedRequest T)) → not (length (staying ops token charged no_befores rs) == 0) ≡ true → not (length rs == 0) ≡ true
      stayed charged [] h = h
      stayed charged (r ∷ rs) h = filled [] r rs
  keeps fraction is_value exact order (Clean at) = record {
    comes = λ id q. inl (queued_filtered id (λ c. not (rules_of.is_erased s (effective s at) c)) s.clients (⊎_elim (λ h. h) (λ h. h) (queued_mapped (has_queued id _ ≡ true) id (rules_of.with_idle_mark s (effective s at)) (λ c h. inl h) _ q)));
    active = λ a. all_mapped IsActive IsActive (rules_of.with_idle_mark s (effective s at)) (λ c h. marked c h) _ (all_filtered IsActive (λ c. not (rules_of.is_erased s (effective s at) c)) s.clients a);
    granted = λ client token phase beyond cost e. cc;
  } where
    -- a client is marked only if it has nothing queued
    marked : (c : PlainClient T) → IsActive c → IsActive (rules_of.with_idle_mark s (effective s at) c)
    marked c h = by c.idle (is_busy c) refl refl where
      by : (i b : Bool) → c.idle ≡ i → is_busy c ≡ b → (i || (not b && nat_le s.config.idle_age (effective s at - c.last_arrival))) ≡ true → c.requests ≡ []
      by true b e k m = h e
      by false true e k m = cc
      by false false e k m = empty_if_not_busy c.requests k

module _ {T : Type 0} (ops : Tagging T) (fraction : T → Fraction) (is_value : Fraction → Type 0) (exact : IsExact ops fraction is_value) (order : IsTotalOrder ops.compare) where
  -- who has a queued request after a command had one, or it is the client's Add
  pub only_an_add_queues : (s : State T) (command : Command) (id : ClientId) → has_queued id ((step ops s command).0).clients ≡ true → (has_queued id s.clients ≡ true) ⊎ (is_add_of id command ≡ true)
  only_an_add_queues s command = (keeps ops s fraction is_value exact order command).comes

  pub grants_what_is_queued : (s : State T) (command : Command) (client : ClientId) (token : Token) (phase : PhaseType) (beyond : Bool) (cost : ℕ) → (step ops s command).1 ≡ Granted client token phase beyond cost → has_queued client s.clients ≡ true
  grants_what_is_queued s command = (keeps ops s fraction is_value exact order command).granted

  pub step_keeps_active : (s : State T) (command : Command) → AreActive s.clients → AreActive ((step ops s command).0).clients
  step_keeps_active s command = (keeps ops s fraction is_value exact order command).active

  active_from : (s : State T) (commands : List Command) → AreActive s.clients → AreActive (state_after ops s commands).clients
  active_from s [] h = h
  active_from s (c ∷ cs) h = active_from ((step ops s c).0) cs (step_keeps_active s c h)

  -- who has a queued request after a history is active
  pub queued_clients_are_active : (config : Setting) (events : List (Event T)) (id : ClientId) → has_queued id (after ops config events).clients ≡ true → is_active id (after ops config events).clients ≡ true
  queued_clients_are_active config events id = queued_are_active id (after ops config events).clients (active_from (opening ops config) (map (λ e. e.command) events) tt)
