-- What a grant makes of the plain state.
use Rattle.std.proofs.Common.{◌≡◌, ℕ, Bool, true, false, List, drop, Option, Some, None, refl, sym, ap, ◌∙◌, subst}
use Rattle.std.specs.Prelude.{◌==◌, IfSome, Ok, Err, Result}
use Rattle.std.specs.Option.{option_map}
use Rattle.dmc_types.specs.declared.ids.ClientId.{ClientId}
use Rattle.dmc_types.specs.declared.ids.Token.{Token}
use Rattle.dmc_types.specs.declared.config.PhaseType.{PhaseType}
use Rattle.dmc_types.specs.declared.config.PhaseType.TheVariants as phases
use Rattle.dmc_types.specs.declared.refusal.Refusal.{Refusal}
use Rattle.dmc_tag.specs.Tag.{Fraction, Tagging}
use Rattle.dmc_tag.specs.Outcome.{◌>>=◌}
use Rattle.dmc_tag.specs.declared.plain.QueuedRequest.{QueuedRequest}
use Rattle.dmc_tag.specs.declared.reply.Reply.{Reply}
use Rattle.dmc_tag.specs.Spacing.{spacings_of}
use Rattle.dmc_tag.specs.Best.{Found}
use Rattle.dmc_tag.specs.Rules as rules_of
use Rattle.dmc_tag.specs.Rules.{Outcome, taken_out, granted, progress_granted, grant_priority, can_grant}
use Rattle.dmc_tag.specs.Step.{answer_of}
use Rattle.dmc_tag.specs.declared.reply.Reply.TheVariants.{Granted}
use Rattle.dmc_tag.specs.State.{State}
use Rattle.dmc_tag.specs.declared.reply.Reply.TheVariants as replies
use Rattle.dmc_tag.specs.declared.reply.Pulled.TheVariants as pulls
use Rattle.dmc_pull.specs.Allowed.{is_allowed}
use Rattle.dmc_pull.specs.internal.Allowed.{SettlesIf}
use Rattle.dmc_pull.specs.declared.granting.PullFault.TheVariants as faults
use Rattle.dmc_client.specs.Record.{Rec, client_of}
use Rattle.dmc_roster.specs.Entries.{Entry, record_at, with_record_at, AreDistinct}
use Rattle.dmc_adjust.specs.Changes.{popped, is_reducible}
use Rattle.dmc_pull.specs.Represented.{clients_in}
use Rattle.dmc_pull.specs.Queue.{Queue, IsQueue, IsKept, state_of}
use Rattle.dmc_pull.proofs.Common.Parts.{found_holds}
use Rattle.dmc_pull.specs.internal.Choice.{first_at, after_grant, Settles}
use Rattle.dmc_pull.proofs.Common.Entries.{Split, split, changed_client}
use Rattle.dmc_pull.proofs.Pull.Picks.{first_chosen}
use Rattle.dmc_pull.proofs.Common.Replaced.{Waits}

module _ {T : Type 0} (ops : Tagging T) where
  -- the P of the first request is counted as the phase says
  abbrev Counted : Queue T → Queue T → ℕ → PhaseType → Type 0
  Counted old new key phase = IfSome (first_at key old.roster.entries) (λ found. new.progress ≡ progress_granted ops phase old.config.shares found.request.tags.p old.progress)

  -- the queue after a grant: the config stays, the record is the granted one's, the moment is t, and the P of the request is counted
  pub record After (old new : Queue T) (key : ℕ) (phase : PhaseType) (amount : Option T) (t : ℕ) : Type 0 where
    pub roster : IfSome (record_at key old.roster.entries) (λ rec. new.roster ≡ with_record_at old.roster key (after_grant ops amount rec))
    pub config : new.config ≡ old.config
    pub moment : new.last_moment ≡ t
    pub progress : Counted old new key phase

  -- what is true of each first request
  of_each : (P : Found T → Type 0) (o : Option (Found T)) → ((found : Found T) → P found) → IfSome o P
  of_each P None h = tt
  of_each P (Some found) h = h found

  -- a grant in the constraint phase counts nothing, and reduces nothing
  pub counts_nothing : (old new : Queue T) (key : ℕ) → new.progress ≡ old.progress → Counted old new key phases.Reservation
  counts_nothing old new key same = of_each _ (first_at key old.roster.entries) (λ found. same)

  pub reduces_nothing : {es : List (Entry T)} {key : ℕ} {client : ClientId} → Waits es key client → IfSome (record_at key es) (λ rec. is_reducible ops None (popped rec) ≡ true)
  reduces_nothing w = subst (λ o. IfSome o (λ rec. is_reducible ops None (popped rec) ≡ true)) (sym (ap (option_map (λ e. e.rec)) w.found)) refl

  -- a grant in the weight phase is counted first, and then its request is taken out
  pub counted_then_taken : (old between new : Queue T) (key : ℕ) (amount : Option T) (t : ℕ)
      → between.roster ≡ old.roster → between.config ≡ old.config → Counted old between key phases.Priority
      → IfSome (record_at key between.roster.entries) (λ rec. new.roster ≡ with_record_at between.roster key (after_grant ops amount rec)) → new.config ≡ between.config → new.last_moment ≡ t → new.progress ≡ between.progress
      → After old new key phases.Priority amount t
  counted_then_taken old between new key amount t roster config counted taken same_config moment same_progress = record {
    roster = subst (λ r. IfSome (record_at key r.entries) (λ rec. new.roster ≡ with_record_at r key (after_grant ops amount rec))) roster taken;
    config = same_config ∙ config;
    moment = moment;
    progress = subst (λ p. IfSome (first_at key old.roster.entries) (λ found. p ≡ progress_granted ops phases.Priority old.config.shares found.request.tags.p old.progress)) (sym same_progress) counted;
  }

  -- the test of a grant in the weight phase: what is taken off, or the refusal
  abbrev pub IsTested : Queue T → ℕ → Result (Option T) Refusal → Type 0
  IsTested q key can = IfSome (first_at key q.roster.entries) (λ found. can ≡ can_grant ops q.config.hz found)

  module _ (old new : Queue T) (key : ℕ) (client : ClientId) (t : ℕ) (d : AreDistinct old.roster.entries) (w : Waits old.roster.entries key client) where
    abbrev es : List (Entry T)
    es = old.roster.entries

    own_split : Split key w.entry es
    own_split = split key es w.entry w.found d

    -- the request that is granted
    abbrev pub first : Found T
    first = record { client = client_of w.entry.id w.entry.rec; request = w.request; others = drop 1 w.entry.rec.requests }

    first_is : first_at key es ≡ Some first
    first_is = first_chosen es key w.entry w.request w.rest w.found w.requests

    -- what holds of the first request holds of the one under the key
    pub of_first : (P : Found T → Type 0) → P first → IfSome (first_at key es) P
    of_first P h = subst (λ o. IfSome o P) (sym first_is) h

    at_first : (P : Found T → Type 0) → IfSome (first_at key es) P → P first
    at_first P h = subst (λ o. IfSome o P) first_is h

    same_roster : (phase : PhaseType) (amount : Option T) → After old new key phase amount t → new.roster ≡ with_record_at old.roster key (after_grant ops amount w.entry.rec)
    same_roster phase amount a = subst (λ o. IfSome o (λ rec. new.roster ≡ with_record_at old.roster key (after_grant ops amount rec))) (ap (option_map (λ e. e.rec)) w.found) a.roster

    same_progress : (phase : PhaseType) (amount : Option T) → After old new key phase amount t → new.progress ≡ progress_granted ops phase old.config.shares w.request.tags.p old.progress
    same_progress phase amount a = at_first (λ found. new.progress ≡ progress_granted ops phase old.config.shares found.request.tags.p old.progress) a.progress

    reduced_is : (amount : Option T) → client_of w.entry.id (after_grant ops amount w.entry.rec) ≡ rules_of.after_grant ops first amount
    reduced_is None = refl
    reduced_is (Some amount) = refl

    state_after : (phase : PhaseType) (amount : Option T) → After old new key phase amount t → state_of new ≡ taken_out ops (state_of old) t first phase amount
    state_after phase amount a =
        ap (λ c. record { config = c; clients = clients_in new.roster.entries; last_moment = new.last_moment; progress = new.progress }) a.config
        ∙ ap (λ m. record { config = old.config; clients = clients_in new.roster.entries; last_moment = m; progress = new.progress }) a.moment
        ∙ ap (λ r. record { config = old.config; clients = clients_in r.entries; last_moment = t; progress = new.progress }) (same_roster phase amount a)
        ∙ ap (λ cs. record { config = old.config; clients = cs; last_moment = t; progress = new.progress }) (changed_client own_split (λ c. rules_of.after_grant ops first amount) (after_grant ops amount w.entry.rec) (reduced_is amount))
        ∙ ap (λ p. record (taken_out ops (state_of old) t first phase amount) { progress = p }) (same_progress phase amount a)

    -- the reply with the request that was taken out
    abbrev reply_of : QueuedRequest T → PhaseType → Bool → Reply T
    reply_of request phase beyond = Granted client request.token phase beyond request.cost

    same_reply : (request : QueuedRequest T) (phase : PhaseType) (beyond : Bool) → request ≡ w.request → reply_of request phase beyond ≡ granted first phase beyond
    same_reply request phase beyond e = ap (λ id. Granted id request.token phase beyond request.cost) w.client_is ∙ ap (λ r. Granted w.entry.id r.token phase beyond r.cost) e

    request_is : (request : QueuedRequest T) → Some request ≡ option_map (λ found. found.request) (first_at key es) → request ≡ w.request
    request_is request e = let same : Some request ≡ Some w.request = e ∙ ap (option_map (λ (found : Found T). found.request)) first_is in cc (same)

    pair : {A B : Type 0} (a b : A) (x y : B) → a ≡ b → x ≡ y → let p : A × B = (a, x) in let q : A × B = (b, y) in p ≡ q
    pair a b x y e f = λ i. (e i, f i)

    -- ---- in the constraint phase

    pub early_settles : (request : QueuedRequest T) → After old new key phases.Reservation None t → Some request ≡ option_map (λ found. found.request) (first_at key es)
        → IfSome (first_at key es) (λ found. Settles (state_of old) (state_of new) (Ok (taken_out ops (state_of old) t found phases.Reservation None, granted found phases.Reservation false)) (Some (reply_of request phases.Reservation false)))
    early_settles request a k =
        of_first (λ found. Settles (state_of old) (state_of new) (Ok (taken_out ops (state_of old) t found phases.Reservation None, granted found phases.Reservation false)) (Some (reply_of request phases.Reservation false)))
        (pair _ _ _ _ (state_after phases.Reservation None a) (same_reply request phases.Reservation false (request_is request k)))

    -- ---- in the weight phase

    abbrev granted_by : Result (Option T) Refusal → Bool → Outcome T
    granted_by can beyond = can >>= λ amount. Ok (taken_out ops (state_of old) t first phases.Priority amount, granted first phases.Priority beyond)

    outcome_is : (can : Result (Option T) Refusal) (beyond : Bool) → IsTested old key can → answer_of (state_of old) (granted_by can beyond) ≡ answer_of (state_of old) (grant_priority ops (state_of old) t first beyond)
    outcome_is can beyond tested = ap (λ r. answer_of (state_of old) (granted_by r beyond)) (at_first (λ found. can ≡ can_grant ops old.config.hz found) tested)

    pub priority_settles : (request : QueuedRequest T) (amount : Option T) (beyond : Bool) → IsTested old key (Ok amount) → After old new key phases.Priority amount t → Some request ≡ option_map (λ found. found.request) (first_at key es)
        → IfSome (first_at key es) (λ found. Settles (state_of old) (state_of new) (grant_priority ops (state_of old) t found beyond) (Some (reply_of request phases.Priority beyond)))
    priority_settles request amount beyond tested a k =
        of_first (λ found. Settles (state_of old) (state_of new) (grant_priority ops (state_of old) t found beyond) (Some (reply_of request phases.Priority beyond)))
        (pair _ _ _ _ (state_after phases.Priority amount a) (same_reply request phases.Priority beyond (request_is request k)) ∙ outcome_is (Ok amount) beyond tested)

    pub refusal_settles : (refusal : Refusal) (beyond : Bool) → IsTested old key (Err refusal) → IfSome (first_at key es) (λ found. Settles (state_of old) (state_of old) (grant_priority ops (state_of old) t found beyond) (Some (replies.Refused refusal)))
    refusal_settles refusal beyond tested = of_first (λ found. Settles (state_of old) (state_of old) (grant_priority ops (state_of old) t found beyond) (Some (replies.Refused refusal))) (outcome_is (Err refusal) beyond tested)

    -- ---- with a test

    pub priority_declined : (allows : ClientId → PhaseType → Bool) → allows client phases.Priority ≡ false → (amount : Option T) (beyond : Bool) → IsTested old key (Ok amount) → IfSome (first_at key es) (λ found. SettlesIf allows (state_of old) (state_of old) (grant_priority ops (state_of old) t found beyond) (Err faults.Declined))
    priority_declined allows denied amount beyond tested =
        of_first (λ found. SettlesIf allows (state_of old) (state_of old) (grant_priority ops (state_of old) t found beyond) (Err faults.Declined))
        (refl, ap (λ answer. is_allowed allows answer.1) (sym (outcome_is (Ok amount) beyond tested)) ∙ ap (λ id. allows id phases.Priority) (sym w.client_is) ∙ denied)

-- what settles with a grant that the test allows
pub allowed_settles : {T : Type 0} (allows : ClientId → PhaseType → Bool) (old new : State T) (outcomes : Found T → Outcome T) (client : ClientId) (token : Token) (phase : PhaseType) (beyond : Bool) (cost : ℕ) → allows client phase ≡ true → (o : Option (Found T))
    → IfSome o (λ found. Settles old new (outcomes found) (Some (Granted client token phase beyond cost))) → IfSome o (λ found. SettlesIf allows old new (outcomes found) (Ok (pulls.Returning client token phase beyond cost)))
allowed_settles allows old new outcomes client token phase beyond cost allowed None h = h
allowed_settles allows old new outcomes client token phase beyond cost allowed (Some found) h = (h, allowed)

-- ---- the record that was asked

module _ {T : Type 0} (ops : Tagging T) (fraction : T → Fraction) (is_value : Fraction → Type 0) (q : Queue T) (queued : ℕ) (is : IsQueue ops fraction is_value q queued) (key : ℕ) (client : ClientId) (w : Waits q.roster.entries key client) where
  pub asked : (rec : Rec T) → record_at key q.roster.entries ≡ Some rec → rec ≡ w.entry.rec
  asked rec e = let same : Some rec ≡ Some w.entry.rec = sym e ∙ ap (option_map (λ e. e.rec)) w.found in cc (same)

  pub spaced : spacings_of ops q.config.hz w.entry.rec.info ≡ Ok w.entry.rec.spacings
  spaced = (found_holds (λ e. IsKept ops fraction is_value q.config.hz e.rec) (λ e. e.key == key) q.roster.entries w.entry is.kept w.found).spacings
