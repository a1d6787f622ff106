-- What the desks of a settled book total, and what the passes held.
use Rattle.std.proofs.Common.{◌≡◌, ℕ, ◌+◌, ◌<◌, ◌≤◌, List, [], ◌∷◌, length, get_or, refl, sym, ap, ◌∙◌, arith}
use Rattle.std.specs.Prelude.{sum_by, Bool, true, false, Option, Some, None}
use Rattle.std.specs.List.{AllByRecursion}
use Rattle.std.proofs.lemmas.List.Sums.{sum_by-cons}
use Rattle.dmc_types.specs.declared.config.PhaseType.{PhaseType}
use Rattle.dmc_types.specs.declared.config.PhaseType.TheVariants.{Reservation, Priority}
use Rattle.dmc_tag.specs.declared.event.Event.{Event}
use Rattle.dmc_ledger.specs.Accounts.{total_of}
use Rattle.dmc_ledger.specs.Bundles.{ClientSide, GrantHoldings}
use Rattle.dmc_ledger.specs.Moves.{tills_in}
use Rattle.dmc_book.specs.BookState.{PassState, WorkerSide, no_desk, no_unit}
use Rattle.dmc_book.specs.Counts.{count, grant_in, grants_added, one_if, units_for}
use Rattle.dmc_book.specs.Settling.{AreSettledDesks, IsOwn, left_in}
use Rattle.dmc_settle.specs.internal.Filled.{AreFewGrants, granted_at, grants_left}
use Rattle.dmc_settle.specs.Reports.{units_left}
use Rattle.dmc_settle.proofs.Sums.{sum_to, sum_places, sum_places_within, same_sum, no_sum, sum_plus}

-- no event grants more than one unit
few_if : (b : Bool) → one_if b ≤ 1
few_if true = omega arith
few_if false = omega arith

few_units : (client : ℕ) (phase : PhaseType) (grant : Option _) → units_for client phase grant ≤ 1
few_units client phase None = omega arith
few_units client phase (Some grant) = few_if _

few_counted : {T : Type 0} (client : ℕ) (phase : PhaseType) (es : List (Event T)) → count (grants_added client phase) es ≤ length es
few_counted client phase [] = omega arith
few_counted client phase (e ∷ es) =
    let first = few_units client phase (grant_in e.reply) in
    let rest = few_counted client phase es in
    omega (arith, first, rest)

none_in : (phase : PhaseType) → (tills_in phase no_unit).grants.amount ≡ 0
none_in Reservation = refl
none_in Priority = refl

-- the units that are left in passes, desk by desk
pub left_at_all : (phase : PhaseType) (workers : List WorkerSide) (desks : List ClientSide) (passes : List PassState) → AllByRecursion (IsOwn workers desks) passes
    → sum_to (length desks) (λ k. (left_in phase k passes).grants) ≡ units_left phase passes
left_at_all phase workers desks [] own = no_sum (length desks)
left_at_all phase workers desks (p ∷ ps) own =
    let f : GrantHoldings → ℕ = (λ u. (tills_in phase u).grants.amount) in
    let held : PassState → ℕ = (λ q. sum_by f q.units) in
    let here : sum_by f p.units ≡ sum_to (length desks) (λ k. f (get_or p.units k no_unit)) =
    sum_places_within f p.units no_unit (length desks) own.0.units.within (none_in phase) in
    let rest = left_at_all phase workers desks ps own.1 in
    sum_plus (length desks) (λ k. f (get_or p.units k no_unit)) (λ k. (left_in phase k ps).grants)
    ∙ ap (λ n. n + sum_to (length desks) (λ k. (left_in phase k ps).grants)) (sym here) ∙ ap (λ n. held p + n) rest ∙ sym (sum_by-cons held p ps)

module _ {T : Type 0} (es : List (Event T)) (passes : List PassState) (old new : List ClientSide) (h : AreSettledDesks es passes old new) where
  pub few_granted : length es ≤ 1073741824 → (k : ℕ) → k < length new → AreFewGrants (get_or new k no_desk)
  few_granted few k l =
      let d = h.each k (omega (arith, l, h.as_many)) in
      let r = few_counted (get_or old k no_desk).client Reservation es in
      let p = few_counted (get_or old k no_desk).client Priority es in
      record {
        reservation = omega (arith, few, r, d.reservations.grants.total);
        priority = omega (arith, few, p, d.priorities.grants.total);
      }

  same_sums : (f g : ClientSide → ℕ) → ((k : ℕ) → k < length old → f (get_or new k no_desk) ≡ g (get_or old k no_desk)) → sum_by f new ≡ sum_by g old
  same_sums f g each =
      sum_places f new no_desk ∙ ap (λ n. sum_to n (λ k. f (get_or new k no_desk))) h.as_many
      ∙ same_sum (length old) (λ k. f (get_or new k no_desk)) (λ k. g (get_or old k no_desk)) each ∙ sym (sum_places g old no_desk)

  held_sum : (f : ClientSide → ℕ) (phase : PhaseType) → ((k : ℕ) → k < length old → f (get_or new k no_desk) ≡ (left_in phase k passes).grants)
      → (workers : List WorkerSide) → AllByRecursion (IsOwn workers old) passes → sum_by f new ≡ units_left phase passes
  held_sum f phase each workers own =
      sum_places f new no_desk ∙ ap (λ n. sum_to n (λ k. f (get_or new k no_desk))) h.as_many
      ∙ same_sum (length old) (λ k. f (get_or new k no_desk)) (λ k. (left_in phase k passes).grants) each ∙ left_at_all phase workers old passes own

  pub held_granted : (workers : List WorkerSide) → AllByRecursion (IsOwn workers old) passes → (granted_at new).held ≡ grants_left passes
  held_granted workers own =
      let r = held_sum (λ d. d.books.reservation.grants.gathered) Reservation (λ k l. (h.each k l).reservations.grants.gathered) workers own in
      let p = held_sum (λ d. d.books.priority.grants.gathered) Priority (λ k l. (h.each k l).priorities.grants.gathered) workers own in
      rw (r, p) refl

  pub reservations_granted : (granted_at new).reservation ≡ sum_by (λ d. count (grants_added d.client Reservation) es) old
  reservations_granted = same_sums (λ d. total_of d.books.reservation.grants) (λ d. count (grants_added d.client Reservation) es) (λ k l. (h.each k l).reservations.grants.total)

  pub priorities_granted : (granted_at new).priority ≡ sum_by (λ d. count (grants_added d.client Priority) es) old
  priorities_granted = same_sums (λ d. total_of d.books.priority.grants) (λ d. count (grants_added d.client Priority) es) (λ k l. (h.each k l).priorities.grants.total)
