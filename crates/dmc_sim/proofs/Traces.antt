-- What the counts of a trace are after one event more.
use Rattle.std.proofs.Common.{◌≡◌, ℕ, ◌+◌, Bool, false, cond, List, [], ◌∷◌, ◌++◌, refl, sym, ap, ◌∙◌, arith, Ok, Err}
use Rattle.std.specs.Prelude.{count_by, if◌then◌else◌, Result}
use Rattle.std.proofs.lemmas.List.Sums.{sum_by-append}
use Rattle.dmc_types.specs.declared.ids.ClientId.{ClientId}
use Rattle.dmc_types.specs.declared.ids.ServerId.{ServerId}
use Rattle.dmc_types.specs.declared.config.PhaseType.{PhaseType}
use Rattle.dmc_types.specs.declared.config.PhaseType.TheVariants.{Reservation, Priority}
use Rattle.dmc_tag.specs.Tag.{Tagging}
use Rattle.dmc_tag.specs.State.{State}
use Rattle.dmc_tag.specs.Outcome.{◌>>=◌}
use Rattle.dmc_tag.specs.declared.reply.Reply.TheVariants as replies
use Rattle.dmc_scene.specs.SceneValue.{SceneValue, ClientValue}
use Rattle.dmc_core.specs.Core.{CoreValue}
use Rattle.dmc_core.specs.declared.event.CoreEvent.{CoreEvent}
use Rattle.dmc_core.specs.declared.event.CoreReply.TheVariants.{Stamped, Served, Counted}
use Rattle.dmc_core.specs.Events.{cluster_step}
use Rattle.dmc_sim.specs.Simulation.{Entry, Sim, Returned, entry_of, after_event, unless_refused, asked, is_arrival, is_completion, is_reserved, is_grant, sent_by, completed_by, reserved_by, granted_by, plan_of}
use Rattle.dmc_sim.specs.internal.Simulations.{IsCounted, AreGrants, IsAfter}
use Rattle.dmc_sim.specs.declared.client.SimClient.{SimClient}
use Rattle.dmc_sim.specs.declared.report.ServerReport.{ServerReport}

abbrev pub one_if : Bool → ℕ
one_if b = if b then 1 else 0

-- ---- chains

-- a chain that goes on went on at its first link
pub record Chained {A B E : Type 0} (x : Result A E) (f : A → Result B E) (y : B) : Type 0 where
  pub first : A
  pub is : x ≡ Ok first
  pub rest : f first ≡ Ok y

pub chained : {A B E : Type 0} (x : Result A E) (f : A → Result B E) (y : B) → (x >>= f) ≡ Ok y → Chained x f y
chained (Ok a) f y e = record { first = a; is = refl; rest = e }
chained (Err a) f y e = cc

-- ---- one event

abbrev pub entry : {T : Type 0} → CoreEvent → Returned T → Entry T
entry event returned = record { event = event; returned = returned }

module _ {T : Type 0} where
  not_refused : (returned : Returned T) (s next : Sim T) → unless_refused returned s ≡ Ok next → next ≡ s
  not_refused (Ok (Stamped params)) s next e = cc
  not_refused (Ok (Served replies.Registered)) s next e = cc
  not_refused (Ok (Served replies.Updated)) s next e = cc
  not_refused (Ok (Served (replies.Tagged tags))) s next e = cc
  not_refused (Ok (Served (replies.Granted client token phase beyond cost))) s next e = cc
  not_refused (Ok (Served (replies.Later at))) s next e = cc
  not_refused (Ok (Served replies.Nothing)) s next e = cc
  not_refused (Ok (Served (replies.Removed count))) s next e = cc
  not_refused (Ok (Served (replies.Cleaned idled erased))) s next e = cc
  not_refused (Ok (Served (replies.Refused refusal))) s next e = cc
  not_refused (Ok Counted) s next e = cc
  not_refused (Err fault) s next e = cc

  pub asked_is : (ops : Tagging T) (event : CoreEvent) (sim next : Sim T) → asked ops event sim ≡ Ok next → next ≡ after_event ops event sim
  asked_is ops event sim next e = not_refused ((cluster_step ops sim.run event).1) (after_event ops event sim) next e

  pub asked_trace : (ops : Tagging T) (event : CoreEvent) (sim next : Sim T) → asked ops event sim ≡ Ok next → next.trace ≡ sim.trace ++ entry_of ops event sim ∷ []
  asked_trace ops event sim next e = ap (λ (s : Sim T). s.trace) (asked_is ops event sim next e)

  one_more : (p : Entry T → Bool) (trace : List (Entry T)) (e : Entry T) → count_by p (trace ++ e ∷ []) ≡ count_by p trace + one_if (p e)
  one_more p trace e = let all = sum_by-append (λ (x : Entry T). cond (p x) 1 0) trace (e ∷ []) in omega (arith, all)

  module _ (trace : List (Entry T)) (e : Entry T) where
    pub sent_more : (id : ClientId) → sent_by id (trace ++ e ∷ []) ≡ sent_by id trace + one_if (is_arrival id e.event e.returned)
    sent_more id = one_more (λ x. is_arrival id x.event x.returned) trace e

    pub completed_more : (id : ClientId) → completed_by id (trace ++ e ∷ []) ≡ completed_by id trace + one_if (is_completion id e.event e.returned)
    completed_more id = one_more (λ x. is_completion id x.event x.returned) trace e

    pub reserved_more : (id : ClientId) → reserved_by id (trace ++ e ∷ []) ≡ reserved_by id trace + one_if (is_reserved id e.event e.returned)
    reserved_more id = one_more (λ x. is_reserved id x.event x.returned) trace e

    pub granted_more : (s : ServerId) (phase : PhaseType) → granted_by s phase (trace ++ e ∷ []) ≡ granted_by s phase trace + one_if (is_grant s phase e.event e.returned)
    granted_more s phase = one_more (λ x. is_grant s phase x.event x.returned) trace e

-- ---- what stays the same

pub record SameCounts {T : Type 0} (id : ClientId) (old new : List (Entry T)) : Type 0 where
  pub sent : sent_by id new ≡ sent_by id old
  pub completed : completed_by id new ≡ completed_by id old
  pub reserved : reserved_by id new ≡ reserved_by id old

pub record SameGrants {T : Type 0} (s : ServerId) (old new : List (Entry T)) : Type 0 where
  pub grants : (phase : PhaseType) → granted_by s phase new ≡ granted_by s phase old

module _ {T : Type 0} where
  -- an event that counts nothing for the client
  pub same_counts : (id : ClientId) (trace : List (Entry T)) (e : Entry T) → is_arrival id e.event e.returned ≡ false → is_completion id e.event e.returned ≡ false → is_reserved id e.event e.returned ≡ false
      → SameCounts id trace (trace ++ e ∷ [])
  same_counts id trace e a b c =
      let sent = sent_more trace e id in
      let completed = completed_more trace e id in
      let reserved = reserved_more trace e id in
      record {
        sent = let f : one_if (is_arrival id e.event e.returned) ≡ 0 = ap one_if a in omega (arith, sent, f);
        completed = let f : one_if (is_completion id e.event e.returned) ≡ 0 = ap one_if b in omega (arith, completed, f);
        reserved = let f : one_if (is_reserved id e.event e.returned) ≡ 0 = ap one_if c in omega (arith, reserved, f);
      }

  -- and for the server
  pub same_grants : (s : ServerId) (trace : List (Entry T)) (e : Entry T) → ((phase : PhaseType) → is_grant s phase e.event e.returned ≡ false) → SameGrants s trace (trace ++ e ∷ [])
  same_grants s trace e none = record {
    grants = λ phase.
        let more = granted_more trace e s phase in
        let f : one_if (is_grant s phase e.event e.returned) ≡ 0 = ap one_if (none phase) in
        omega (arith, more, f);
  }

  pub counts_both : {id : ClientId} {old middle new : List (Entry T)} → SameCounts id old middle → SameCounts id middle new → SameCounts id old new
  counts_both a b = record { sent = b.sent ∙ a.sent; completed = b.completed ∙ a.completed; reserved = b.reserved ∙ a.reserved }

  pub grants_both : {s : ServerId} {old middle new : List (Entry T)} → SameGrants s old middle → SameGrants s middle new → SameGrants s old new
  grants_both a b = record { grants = λ phase. b.grants phase ∙ a.grants phase }

  pub counts_stay : (id : ClientId) (trace : List (Entry T)) → SameCounts id trace trace
  counts_stay id trace = record { sent = refl; completed = refl; reserved = refl }

  pub grants_stay : (s : ServerId) (trace : List (Entry T)) → SameGrants s trace trace
  grants_stay s trace = record { grants = λ phase. refl }

  -- a client that is this one of the scene, with these counts
  pub counted_as : (scene : SceneValue) (trace : List (Entry T)) (c : SimClient) (k : ClientValue) → c.scene ≡ k → c.plan.items ≡ plan_of scene k → c.sent ≡ sent_by k.id trace → c.completed ≡ completed_by k.id trace
      → c.reservation ≡ reserved_by k.id trace → IsCounted scene trace c
  counted_as scene trace c k is plan sent completed reservation = record {
    plan = plan ∙ ap (plan_of scene) (sym is);
    sent = sent ∙ ap (λ (x : ClientValue). sent_by x.id trace) (sym is);
    completed = completed ∙ ap (λ (x : ClientValue). completed_by x.id trace) (sym is);
    reservation = reservation ∙ ap (λ (x : ClientValue). reserved_by x.id trace) (sym is);
  }

  -- a client whose counts stay is counted still, and the grants of a server likewise
  pub still_counted : (scene : SceneValue) (old new : List (Entry T)) (c : SimClient) → SameCounts c.scene.id old new → IsCounted scene old c → IsCounted scene new c
  still_counted scene old new c same h = record {
    plan = h.plan;
    sent = h.sent ∙ sym same.sent;
    completed = h.completed ∙ sym same.completed;
    reservation = h.reservation ∙ sym same.reserved;
  }

  pub still_granted : (old new : List (Entry T)) (row : ServerReport) → SameGrants row.server old new → AreGrants old row → AreGrants new row
  still_granted old new row same h = record { reservation = h.reservation ∙ sym (same.grants Reservation); priority = h.priority ∙ sym (same.grants Priority) }

  -- ---- the trace after an event that returned this

  pub after_trace : {Q : Type 0} (ops : Tagging T) (state : Q → State T) (event : CoreEvent) (sim next : Sim T) (core : CoreValue Q) (returned : Returned T) → IsAfter ops state event sim core returned next
      → next.trace ≡ sim.trace ++ entry event returned ∷ []
  after_trace ops state event sim next core returned h = ap (λ (s : Sim T). s.trace) h.next_is ∙ ap (λ (r : Returned T). sim.trace ++ record { event = event; returned = r } ∷ []) h.returned_is
