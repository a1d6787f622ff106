-- The bounds over a cluster run.
use Rattle.std.proofs.Common.{◌≡◌, ℕ, ◌+◌, ◌*◌, ◌≤◌, ◌<◌, List, map, take, Option, Some, None, refl, sym, subst, arith}
use Rattle.std.specs.Cmp.{IsTotalOrder}
use Rattle.dmc_types.specs.declared.ids.ClientId.{ClientId}
use Rattle.dmc_types.specs.declared.ids.ServerId.{ServerId}
use Rattle.dmc_types.specs.declared.config.Counting.{Counting}
use Rattle.dmc_types.specs.declared.config.Counting.TheVariants.{All, Others}
use Rattle.dmc_types.specs.declared.config.PhaseType.TheVariants.{Priority}
use Rattle.dmc_tag.specs.Tag.{Tagging, Fraction, IsExact}
use Rattle.dmc_tag.specs.declared.event.Event.{Event}
use Rattle.dmc_history_laws.specs.Bounds.{IsBehindThoseThatLeft, IsFirstThatWaits, IsOf, SpanBy, arrivals, given_back, sum_of}
use Rattle.dmc_history_laws.proofs.ForCallers.{holds_limit, holds_limit_with_cancels, holds_reservation, holds_reservation_with_cancels}
use Rattle.dmc_scene.specs.SceneValue.{SceneValue}
use Rattle.dmc_tracker.specs.TrackerList.{IsTracked}
use Rattle.dmc_core.specs.declared.event.CoreEvent.{CoreEvent}
use Rattle.dmc_core.specs.declared.event.Message.{Message}
use Rattle.dmc_core.specs.Run.{Client, pair_at}
use Rattle.dmc_core_laws.specs.Histories.{client_in, history}
use Rattle.dmc_core_laws.specs.Bounds.{allowed, counted, list_in, run_of, tracker_list, GivesNothingBack, LimitOverRuns, LimitOverRunsWithCancels, ReservationOverRuns, ReservationOverRunsWithCancels}
use Rattle.dmc_core_laws.proofs.Histories.{histories_replay}
use Rattle.dmc_core_laws.proofs.Stamped.{follows}
use Rattle.dmc_core_laws.proofs.InForm.{nothing_given_back}
use Rattle.dmc_core_laws.proofs.Numbers.{first_positive}
use Rattle.dmc_core_laws.proofs.Completions.{completed_between}

nothing_counted : (hz n : ℕ) → hz * 0 ≤ n
nothing_counted hz n = omega arith

-- what is counted is at most what the sum of the deltas is at most, and in the form All, in which nothing is given back, without that
module _ {T : Type 0} (Is : ℕ → List (Event T) → Type 0) (ops : Tagging T) (scene : SceneValue) (events : List CoreEvent) (id : ClientId) (s : ServerId) (within : s.0 < scene.servers) (span : SpanBy Is id Priority (history ops scene s events)) (some : 0 < span.k) (granted : IsOf span.token span.cost span.k (arrivals id (history ops scene s events))) where
  counts : (hz n : ℕ) → hz * sum_of (λ p. p.delta) span.i span.k (arrivals id (history ops scene s events)) ≤ n → (counting : Counting) → scene.counting ≡ counting
      → hz * counted counting s (tracker_list (run_of ops scene events) id) span.i span.k (arrivals id (history ops scene s events)) ≤ n
  counts hz n bound Others form = bound
  counts hz n bound All form = by (client_in (run_of ops scene events) id) refl where
    by : (o : Option Client) → client_in (run_of ops scene events) id ≡ o → hz * counted All s (list_in o) span.i span.k (arrivals id (history ops scene s events)) ≤ n
    by None found = nothing_counted hz n
    by (Some c) found =
        let is = (follows ops scene id s within events).each c found in
        subst (λ m. hz * m ≤ n) (sym (completed_between Is id s Priority (history ops scene s events) span c.list (map (λ (m : Message). m.params) (pair_at s c.pairs).flight) (subst (λ k. IsTracked k c.list) form is.tracked) is.unskipped is.stamps some granted)) bound

-- in the form All nothing is given back
allows : (counting : Counting) (n hz within given : ℕ) → (counting ≡ All → given ≡ 0) → n ≤ within + hz * given → n ≤ allowed counting hz within given
allows Others n hz within given none h = h
allows All n hz within given none h =
    let nothing : hz * 0 ≡ 0 = omega arith in
    let bound : n ≤ within + hz * 0 = subst (λ g. n ≤ within + hz * g) (none refl) h in
    omega (arith, nothing, bound)

none_in_all : {T : Type 0} (history : List (Event T)) (id : ClientId) (i k n : ℕ) (counting : Counting) → GivesNothingBack counting history → counting ≡ All → given_back id i k (take n history) ≡ 0
none_in_all history id i k n All none e = none id i k n
none_in_all history id i k n Others none e = cc

module _ {T : Type 0} (ops : Tagging T) (fraction : T → Fraction) (is_value : Fraction → Type 0) (exact : IsExact ops fraction is_value) (order : IsTotalOrder ops.compare) where
  pub limit_over_runs : LimitOverRuns ops
  limit_over_runs = λ scene events id s some within l span never limited.
      let sums = holds_limit ops fraction is_value exact order scene.config some (history ops scene s events) ((histories_replay ops scene s events within).replays_all) id l span never limited in
      (sums.0, counts (IsBehindThoseThatLeft id) ops scene events id s within span (omega (arith, span.k_is)) sums.0 scene.config.hz _ sums.1 scene.counting refl)

  pub reservation_over_runs : ReservationOverRuns ops
  reservation_over_runs = λ scene events s some within. holds_reservation ops fraction is_value exact order scene.config some (history ops scene s events) ((histories_replay ops scene s events within).replays_all)

  pub limit_over_runs_with_cancels : LimitOverRunsWithCancels ops
  limit_over_runs_with_cancels = λ scene events id s some within l span limited.
      let all = history ops scene s events in
      let sums = holds_limit_with_cancels ops fraction is_value exact order scene.config some all ((histories_replay ops scene s events within).replays_all) id l span limited in (
        sums.0,
        allows scene.counting _ scene.config.hz _ _ (none_in_all all id span.i span.k span.granted scene.counting (nothing_given_back ops scene events s))
            (counts (IsFirstThatWaits id) ops scene events id s within span (first_positive id span.k (take span.granted all) span.k_is) sums.0 scene.config.hz _ sums.1 scene.counting refl),
      )

  pub reservation_over_runs_with_cancels : ReservationOverRunsWithCancels ops
  reservation_over_runs_with_cancels = λ scene events s some within. holds_reservation_with_cancels ops fraction is_value exact order scene.config some (history ops scene s events) ((histories_replay ops scene s events within).replays_all)
