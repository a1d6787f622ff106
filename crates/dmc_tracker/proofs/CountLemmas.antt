-- How many responses and stamps a tracker's list has, what the responses cost, and the completions at one server.
use Rattle.std.proofs.Common.{◌≡◌, ℕ, ◌+◌, ◌≤◌, List, [], ◌∷◌, ◌++◌, length, refl, sym, ap, ◌∙◌, arith, true, false, cond, ◌==◌}
use Rattle.std.proofs.lemmas.List.Sums.{sum_by_push, count_by-le-length}
use Rattle.dmc_types.specs.Values.{Params, Counts, no_counts}
use Rattle.dmc_types.specs.declared.ids.ServerId.{ServerId}
use Rattle.dmc_types.specs.declared.config.Counting.TheVariants.{Others}
use Rattle.dmc_types.specs.declared.config.PhaseType.{PhaseType}
use Rattle.dmc_types.specs.declared.config.PhaseType.TheVariants.{Reservation, Priority}
use Rattle.dmc_tracker.specs.declared.event.TrackerEvent.{TrackerEvent}
use Rattle.dmc_tracker.specs.declared.event.TrackerEvent.TheVariants.{Stamp, Skip, Response}
use Rattle.dmc_tracker.specs.TrackerList.{plus, completed_in, completed_by, counted_by, is_stamp_to, is_response_in, response_cost, completions, completions_at, others, responses, response_costs, stamps}
use Rattle.dmc_tracker.proofs.ListLemmas.{same_counts, plus-none, none-plus, total-push, snoc}

-- what an entry completes at s
abbrev completed_at : ServerId → TrackerEvent → Counts
completed_at s e = record {
  delta = response_cost s Reservation e + response_cost s Priority e;
  rho = response_cost s Reservation e;
}

-- a response completes at its own server, and there alone
completed_at-same : (q s : ServerId) (phase : PhaseType) (cost : ℕ) → (q.0 == s.0) ≡ true
    → completed_at s (Response q phase cost) ≡ completed_in phase cost
completed_at-same q s Reservation cost here =
    same_counts _ _ (ap (λ b. cond b cost 0 + 0) here ∙ omega arith) (ap (λ b. cond b cost 0) here)
completed_at-same q s Priority cost here = same_counts _ _ (ap (λ b. 0 + cond b cost 0) here ∙ omega arith) refl

completed_at-other : (q s : ServerId) (phase : PhaseType) (cost : ℕ) → (q.0 == s.0) ≡ false
    → completed_at s (Response q phase cost) ≡ no_counts
completed_at-other q s Reservation cost there = same_counts _ _ (ap (λ b. cond b cost 0 + 0) there) (ap (λ b. cond b cost 0) there)
completed_at-other q s Priority cost there = same_counts _ _ (ap (λ b. 0 + cond b cost 0) there) refl

-- an entry completes at s or elsewhere
completed_by-parts : (s : ServerId) (e : TrackerEvent) → plus (completed_at s e) (counted_by Others s e) ≡ completed_by e
completed_by-parts s (Stamp q params) = refl
completed_by-parts s (Skip q) = refl
completed_by-parts s (Response q Reservation cost) =
    elim (q.0 == s.0) as (λ b. plus (record { delta = cond b cost 0 + 0; rho = cond b cost 0 }) (cond b no_counts (completed_in Reservation cost)) ≡ completed_in Reservation cost) [
      | true ↦ same_counts _ _ (omega arith) (omega arith)
      | false ↦ none-plus _
    ]
completed_by-parts s (Response q Priority cost) =
    elim (q.0 == s.0) as (λ b. plus (record { delta = 0 + cond b cost 0; rho = 0 }) (cond b no_counts (completed_in Priority cost)) ≡ completed_in Priority cost) [
      | true ↦ same_counts _ _ (omega arith) (omega arith)
      | false ↦ none-plus _
    ]

plus-plus : (a x b y : Counts) → plus (plus a x) (plus b y) ≡ plus (plus a b) (plus x y)
plus-plus a x b y = same_counts _ _ (omega arith) (omega arith)

module _ (s : ServerId) (events : List TrackerEvent) where
  responses-push : (phase : PhaseType) (e : TrackerEvent)
      → responses s phase (events ++ e ∷ []) ≡ responses s phase events + cond (is_response_in s phase e) 1 0
  responses-push phase e = sum_by_push (λ x. cond (is_response_in s phase x) 1 0) events e

  -- how many responses in a phase there are: one more by a response of s in this phase, and by no other entry
  pub responses-stamp : (phase : PhaseType) (q : ServerId) (params : Params)
      → responses s phase (events ++ Stamp q params ∷ []) ≡ responses s phase events
  responses-stamp phase q params = omega (arith, responses-push phase (Stamp q params))

  pub responses-skip : (phase : PhaseType) (q : ServerId) → responses s phase (events ++ Skip q ∷ []) ≡ responses s phase events
  responses-skip phase q = omega (arith, responses-push phase (Skip q))

  pub responses-response_same : (phase : PhaseType) (q : ServerId) (cost : ℕ) → (q.0 == s.0) ≡ true
      → responses s phase (events ++ Response q phase cost ∷ []) ≡ responses s phase events + 1
  responses-response_same Reservation q cost here =
      responses-push Reservation (Response q Reservation cost) ∙ ap (λ b. responses s Reservation events + cond b 1 0) here
  responses-response_same Priority q cost here =
      responses-push Priority (Response q Priority cost) ∙ ap (λ b. responses s Priority events + cond b 1 0) here

  pub responses-response_other : (phase : PhaseType) (q : ServerId) (granted : PhaseType) (cost : ℕ) → (q.0 == s.0) ≡ false
      → responses s phase (events ++ Response q granted cost ∷ []) ≡ responses s phase events
  responses-response_other Reservation q Reservation cost there =
      omega (arith, responses-push Reservation (Response q Reservation cost), ap {B = ℕ} (λ b. cond b 1 0) there)
  responses-response_other Reservation q Priority cost there = omega (arith, responses-push Reservation (Response q Priority cost))
  responses-response_other Priority q Reservation cost there = omega (arith, responses-push Priority (Response q Reservation cost))
  responses-response_other Priority q Priority cost there =
      omega (arith, responses-push Priority (Response q Priority cost), ap {B = ℕ} (λ b. cond b 1 0) there)

  -- a response in the other phase
  pub responses-reservation-priority : (q : ServerId) (cost : ℕ)
      → responses s Reservation (events ++ Response q Priority cost ∷ []) ≡ responses s Reservation events
  responses-reservation-priority q cost = omega (arith, responses-push Reservation (Response q Priority cost))

  pub responses-priority-reservation : (q : ServerId) (cost : ℕ)
      → responses s Priority (events ++ Response q Reservation cost ∷ []) ≡ responses s Priority events
  responses-priority-reservation q cost = omega (arith, responses-push Priority (Response q Reservation cost))

  response_costs-push : (phase : PhaseType) (e : TrackerEvent)
      → response_costs s phase (events ++ e ∷ []) ≡ response_costs s phase events + response_cost s phase e
  response_costs-push phase e = sum_by_push (response_cost s phase) events e

  -- what the responses in a phase cost: a response of s in this phase adds its cost, and no other entry adds any
  pub response_costs-stamp : (phase : PhaseType) (q : ServerId) (params : Params)
      → response_costs s phase (events ++ Stamp q params ∷ []) ≡ response_costs s phase events
  response_costs-stamp phase q params = omega (arith, response_costs-push phase (Stamp q params))

  pub response_costs-skip : (phase : PhaseType) (q : ServerId)
      → response_costs s phase (events ++ Skip q ∷ []) ≡ response_costs s phase events
  response_costs-skip phase q = omega (arith, response_costs-push phase (Skip q))

  pub response_costs-response_same : (phase : PhaseType) (q : ServerId) (cost : ℕ) → (q.0 == s.0) ≡ true
      → response_costs s phase (events ++ Response q phase cost ∷ []) ≡ response_costs s phase events + cost
  response_costs-response_same Reservation q cost here =
      response_costs-push Reservation (Response q Reservation cost) ∙ ap (λ b. response_costs s Reservation events + cond b cost 0) here
  response_costs-response_same Priority q cost here =
      response_costs-push Priority (Response q Priority cost) ∙ ap (λ b. response_costs s Priority events + cond b cost 0) here

  pub response_costs-response_other : (phase : PhaseType) (q : ServerId) (granted : PhaseType) (cost : ℕ) → (q.0 == s.0) ≡ false
      → response_costs s phase (events ++ Response q granted cost ∷ []) ≡ response_costs s phase events
  response_costs-response_other Reservation q Reservation cost there =
      omega (arith, response_costs-push Reservation (Response q Reservation cost), ap {B = ℕ} (λ b. cond b cost 0) there)
  response_costs-response_other Reservation q Priority cost there =
      omega (arith, response_costs-push Reservation (Response q Priority cost))
  response_costs-response_other Priority q Reservation cost there =
      omega (arith, response_costs-push Priority (Response q Reservation cost))
  response_costs-response_other Priority q Priority cost there =
      omega (arith, response_costs-push Priority (Response q Priority cost), ap {B = ℕ} (λ b. cond b cost 0) there)

  -- a response in the other phase
  pub response_costs-reservation-priority : (q : ServerId) (cost : ℕ)
      → response_costs s Reservation (events ++ Response q Priority cost ∷ []) ≡ response_costs s Reservation events
  response_costs-reservation-priority q cost = omega (arith, response_costs-push Reservation (Response q Priority cost))

  pub response_costs-priority-reservation : (q : ServerId) (cost : ℕ)
      → response_costs s Priority (events ++ Response q Reservation cost ∷ []) ≡ response_costs s Priority events
  response_costs-priority-reservation q cost = omega (arith, response_costs-push Priority (Response q Reservation cost))

  -- the completions at s
  completions_at-push : (e : TrackerEvent) → completions_at s (events ++ e ∷ []) ≡ plus (completions_at s events) (completed_at s e)
  completions_at-push e =
      same_counts _ _ (omega (arith, response_costs-push Reservation e, response_costs-push Priority e)) (response_costs-push Reservation e)

  pub completions_at-stamp : (q : ServerId) (params : Params) → completions_at s (events ++ Stamp q params ∷ []) ≡ completions_at s events
  completions_at-stamp q params = completions_at-push (Stamp q params) ∙ plus-none (completions_at s events)

  pub completions_at-skip : (q : ServerId) → completions_at s (events ++ Skip q ∷ []) ≡ completions_at s events
  completions_at-skip q = completions_at-push (Skip q) ∙ plus-none (completions_at s events)

  pub completions_at-response_same : (q : ServerId) (phase : PhaseType) (cost : ℕ) → (q.0 == s.0) ≡ true
      → completions_at s (events ++ Response q phase cost ∷ []) ≡ plus (completions_at s events) (completed_in phase cost)
  completions_at-response_same q phase cost here =
      completions_at-push (Response q phase cost) ∙ ap (plus (completions_at s events)) (completed_at-same q s phase cost here)

  pub completions_at-response_other : (q : ServerId) (phase : PhaseType) (cost : ℕ) → (q.0 == s.0) ≡ false
      → completions_at s (events ++ Response q phase cost ∷ []) ≡ completions_at s events
  completions_at-response_other q phase cost there =
      completions_at-push (Response q phase cost) ∙ ap (plus (completions_at s events)) (completed_at-other q s phase cost there)
      ∙ plus-none (completions_at s events)

  -- no list has more stamps or responses than entries
  pub stamps-le-length : stamps s events ≤ length events
  stamps-le-length = count_by-le-length (is_stamp_to s) events

  pub responses-le-length : (phase : PhaseType) → responses s phase events ≤ length events
  responses-le-length phase = count_by-le-length (is_response_in s phase) events

-- the completions are those at s and those at the other servers
pub completions-by_server : (events : List TrackerEvent) (s : ServerId)
    → plus (completions_at s events) (others s events) ≡ completions events
completions-by_server events s =
    snoc (λ es. plus (completions_at s es) (others s es) ≡ completions es) refl step [] events refl
  where
    step : (es : List TrackerEvent) (e : TrackerEvent) → plus (completions_at s es) (others s es) ≡ completions es
        → plus (completions_at s (es ++ e ∷ [])) (others s (es ++ e ∷ [])) ≡ completions (es ++ e ∷ [])
    step es e h =
        ap (λ x. plus x (others s (es ++ e ∷ []))) (completions_at-push s es e)
        ∙ ap (plus (plus (completions_at s es) (completed_at s e))) (total-push (counted_by Others s) es e)
        ∙ plus-plus (completions_at s es) (completed_at s e) (others s es) (counted_by Others s e)
        ∙ ap (λ x. plus x (plus (completed_at s e) (counted_by Others s e))) h
        ∙ ap (plus (completions es)) (completed_by-parts s e)
        ∙ sym (total-push completed_by es e)
