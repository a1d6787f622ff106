-- What the stamps of a tracked list carry: in the constraint phase no more than of all, and of all no less than they count for
-- their own requests.
use Rattle.std.proofs.Common.{ℕ, ◌≤◌, List, [], ◌∷◌, ◌++◌, refl, sym, ap, subst, arith, true, false, cond, append_assoc, ◌==◌}
use Rattle.std.specs.Prelude.{sum_by}
use Rattle.std.specs.List.{after_last}
use Rattle.std.proofs.lemmas.List.Sums.{sum_by-cons, sum_by-le-sum_by}
use Rattle.dmc_types.specs.Values.{Params, no_counts, counts_of}
use Rattle.dmc_types.specs.declared.ids.ServerId.{ServerId}
use Rattle.dmc_types.specs.declared.config.Counting.{Counting}
use Rattle.dmc_types.specs.declared.config.Counting.TheVariants.{All, Others}
use Rattle.dmc_types.specs.declared.config.PhaseType.{PhaseType}
use Rattle.dmc_types.specs.declared.config.PhaseType.TheVariants.{Reservation, Priority}
use Rattle.dmc_tracker.specs.declared.event.TrackerEvent.{TrackerEvent}
use Rattle.dmc_tracker.specs.declared.event.TrackerEvent.TheVariants.{Stamp, Skip, Response}
use Rattle.dmc_tracker.specs.TrackerList.{completed_in, counted_by, is_mark_of, sent_by, stamp_cost, sent, stamp_costs, demanded, IsTracked}

-- ---- a stamp

completed-rho : (phase : PhaseType) (cost : ℕ) → (completed_in phase cost).rho ≤ (completed_in phase cost).delta
completed-rho Reservation cost = omega arith
completed-rho Priority cost = omega arith

counted-rho : (counting : Counting) (s : ServerId) (e : TrackerEvent) → (counted_by counting s e).rho ≤ (counted_by counting s e).delta
counted-rho counting s (Stamp q params) = omega arith
counted-rho counting s (Skip q) = omega arith
counted-rho All s (Response q phase cost) = completed-rho phase cost
counted-rho Others s (Response q phase cost) =
    elim (q.0 == s.0) as (λ b. (cond b no_counts (completed_in phase cost)).rho ≤ (cond b no_counts (completed_in phase cost)).delta) [
      | true ↦ omega arith
      | false ↦ completed-rho phase cost
    ]

pub demanded-rho : (counting : Counting) (s : ServerId) (cost : ℕ) (events : List TrackerEvent)
    → (demanded counting s cost events).rho ≤ (demanded counting s cost events).delta
demanded-rho counting s cost events =
    let counted = counted_by counting s in
    let few = sum_by-le-sum_by (λ e. (counted e).rho) (λ e. (counted e).delta) (after_last (is_mark_of s) events) (counted-rho counting s) in
    omega (arith, few)

-- ---- a list

-- what holds of each entry of a tracked list holds of the sums
sums-le : (counting : Counting) (f g : TrackerEvent → ℕ)
    → ((before after : List TrackerEvent) (e : TrackerEvent) → IsTracked counting (before ++ e ∷ after) → f e ≤ g e)
    → (before events : List TrackerEvent) → IsTracked counting (before ++ events) → sum_by f events ≤ sum_by g events
sums-le counting f g each before [] h = omega arith
sums-le counting f g each before (e ∷ es) h =
    let rest = sums-le counting f g each (before ++ e ∷ []) es (rw append_assoc h) in
    omega (arith, each before es e h, rest, sum_by-cons f e es, sum_by-cons g e es)

sent_by-rho : (counting : Counting) (s : ServerId) (before after : List TrackerEvent) (e : TrackerEvent)
    → IsTracked counting (before ++ e ∷ after) → (sent_by s e).rho ≤ (sent_by s e).delta
sent_by-rho counting s before after (Stamp q params) h =
    let carried = h before after q params refl in
    elim (q.0 == s.0) as (λ b. (cond b (counts_of params) no_counts).rho ≤ (cond b (counts_of params) no_counts).delta) [
      | true ↦ subst (λ (p : Params). p.rho ≤ p.delta) (sym carried) (demanded-rho counting q params.cost before)
      | false ↦ omega arith
    ]
sent_by-rho counting s before after (Skip q) h = omega arith
sent_by-rho counting s before after (Response q phase cost) h = omega arith

pub sent-rho : (counting : Counting) (s : ServerId) (events : List TrackerEvent) → IsTracked counting events
    → (sent s events).rho ≤ (sent s events).delta
sent-rho counting s events h = sums-le counting (λ e. (sent_by s e).rho) (λ e. (sent_by s e).delta) (sent_by-rho counting s) [] events h

-- in `Others` a stamp carries what its request costs
sent_by-cost : (s : ServerId) (before after : List TrackerEvent) (e : TrackerEvent) → IsTracked Others (before ++ e ∷ after)
    → stamp_cost s e ≤ (sent_by s e).delta
sent_by-cost s before after (Stamp q params) h =
    let carried = ap (λ (p : Params). p.delta) (h before after q params refl) in
    elim (q.0 == s.0) as (λ b. cond b params.cost 0 ≤ (cond b (counts_of params) no_counts).delta) [
      | true ↦ omega (arith, carried)
      | false ↦ omega arith
    ]
sent_by-cost s before after (Skip q) h = omega arith
sent_by-cost s before after (Response q phase cost) h = omega arith

pub stamp_costs-sent : (s : ServerId) (events : List TrackerEvent) → IsTracked Others events → stamp_costs s events ≤ (sent s events).delta
stamp_costs-sent s events h = sums-le Others (stamp_cost s) (λ e. (sent_by s e).delta) (sent_by-cost s) [] events h
