-- The bounds across the shards of a server, from those of a history.
use Rattle.std.proofs.Common.{◌≡◌, ℕ, zero, suc, ◌+◌, ◌*◌, ◌-◌, ◌<◌, ◌≤◌, List, [], ◌∷◌, map, drop, take, get_or, length, Option, Some, None, refl, sym, ap, ◌∙◌, subst, inl, inr, arith}
use Rattle.std.specs.Prelude.{sum_by}
use Rattle.std.specs.Cmp.{IsTotalOrder}
use Rattle.std.proofs.Math.Nat.{mul-le-mul_left, le_trans}
use Rattle.std.proofs.lemmas.Bool.{cases_lt}
use Rattle.std.proofs.lemmas.List.{length-map, length-take-le, drop-map, get_or-map, get_or-take}
use Rattle.std.proofs.lemmas.List.Sums.{sum_by-cons}
use Rattle.std.proofs.lemmas.Option.{slice_get_within}
use Rattle.dmc_types.specs.Values.{Params, Counts, Setting}
use Rattle.dmc_types.specs.declared.ids.ClientId.{ClientId}
use Rattle.dmc_types.specs.declared.ids.ServerId.{ServerId}
use Rattle.dmc_types.specs.declared.config.PhaseType.{PhaseType}
use Rattle.dmc_tag.specs.Tag.{Tagging, Fraction, IsExact}
use Rattle.dmc_tag.specs.declared.event.Event.{Event}
use Rattle.dmc_tracker.specs.TrackerList.{plus}
use Rattle.dmc_tracker.proofs.ForCallers.{same_counts}
use Rattle.dmc_history_laws.specs.Bounds.{Arrival, IsBehindThoseThatLeft, IsFirstThatWaits, IsOf, SpanBy, arrivals, sum_of}
use Rattle.dmc_history_laws.proofs.ForCallers.{holds_limit, holds_limit_with_cancels, holds_reservation, holds_reservation_with_cancels}
use Rattle.dmc_shards.specs.declared.call.ShardCall.{ShardCall}
use Rattle.dmc_shards.specs.CallList.{came, given_back, skipped, skipped_after, stamped as stamped_to}
use Rattle.dmc_shards.specs.ShardBounds.{stamp_at, calls_to, came_to, others_after, others_between, skipped_between, back_between, AreStamped, IsBounded, LimitAcrossShards, LimitAcrossShardsWithCancels, ReservationAcrossShards, ReservationAcrossShardsWithCancels}
use Rattle.dmc_shards.proofs.Between.{IsAtMost, counts_in, stamps_of, balanced, came-le, between_fronts}

-- ---- numbers

nothing_came : (hz last first others skipped back bound : ℕ) → last ≤ first → IsBounded hz (last - first) others skipped back bound
nothing_came hz last first others skipped back bound le =
    let none : last - first ≡ 0 = omega (arith, le) in
    let gone : hz * (last - first) ≡ 0 = ap (λ n. hz * n) none ∙ omega arith in
    record {
      given_back = λ all. omega (arith, gone);
      always = omega (arith, gone);
    }

bounded : (hz last first back others skipped sum bound : ℕ) → last + back ≤ first + (sum + (others + skipped)) → hz * sum ≤ bound → IsBounded hz (last - first) others skipped back bound
bounded hz last first back others skipped sum bound e h =
    let part : last - first ≤ sum + (others + skipped - back) = omega (arith, e) in
    let parts : hz * (sum + (others + skipped - back)) ≡ hz * sum + hz * (others + skipped - back) = omega arith in
    record {
      given_back = λ all.
          let less : last - first ≤ sum = omega (arith, e, all) in
          le_trans (mul-le-mul_left hz less) h;
      always =
          let more = mul-le-mul_left hz part in
          omega (arith, more, parts, h);
    }

sum_by-map : {X Y : Type 0} (f : Y → ℕ) (g : X → Y) (xs : List X) → sum_by f (map g xs) ≡ sum_by (λ x. f (g x)) xs
sum_by-map f g [] = refl
sum_by-map f g (x ∷ xs) =
    let a = sum_by-cons f (g x) (map g xs) in
    let b = sum_by-cons (λ y. f (g y)) x xs in
    let rest = sum_by-map f g xs in
    omega (arith, a, b, rest)

-- ---- the stamps of arrivals

abbrev no_arrival : Arrival
no_arrival = record { token = record { 0 = 0 }; params = record { delta = 0; rho = 0; cost = 0 } }

abbrev stamp_of : Arrival → Option Params
stamp_of a = Some a.params

module _ (arrived : List Arrival) (s : ServerId) (calls : List ShardCall) (numbers : List ℕ) (k : ℕ) (stamped : AreStamped k arrived s calls numbers) (within : k ≤ length arrived) where
  long : length (take k numbers) ≡ k
  long =
      sym (length-map (take k numbers) (stamp_at s calls)) ∙ ap length (sym stamped) ∙ length-map (take k arrived) stamp_of ∙ length-take-le k arrived within

  -- the call of each of them stamps
  stamps : (j : ℕ) → j < k → stamp_at s calls (get_or numbers j 0) ≡ stamp_of (get_or (take k arrived) j no_arrival)
  stamps j below =
      ap (stamp_at s calls) (sym (get_or-take k numbers j 0 below))
      ∙ sym (get_or-map (stamp_at s calls) (take k numbers) j 0 None (omega (arith, below, long)))
      ∙ ap (λ os. get_or os j None) (sym stamped)
      ∙ get_or-map stamp_of (take k arrived) j no_arrival None (omega (arith, below, length-take-le k arrived within))

  -- the number of calls up to the stamp of a_j
  abbrev up_to : ℕ → ℕ
  up_to zero = 0
  up_to (suc j) = suc (get_or numbers j 0)

  front_is : (j : ℕ) → calls_to calls numbers j ≡ take (up_to j) calls
  front_is zero = refl
  front_is (suc j) = refl

  is_balanced : (j : ℕ) → j ≤ k → plus (stamped_to s (take (up_to j) calls)) (skipped s (take (up_to j) calls)) ≡ plus (came (take (up_to j) calls)) (given_back s (take (up_to j) calls))
  is_balanced zero below = refl
  is_balanced (suc j) below = balanced s calls (get_or numbers j 0) _ (stamps j (omega (arith, below)))

  -- what the stamps of a_(i+1) .. a_k count
  same_sum : (i : ℕ) → stamps_of (map (stamp_at s calls) (drop i (take k numbers)))
      ≡ record { delta = sum_of (λ p. p.delta) i k arrived; rho = sum_of (λ p. p.rho) i k arrived }
  same_sum i =
      let parts : map (stamp_at s calls) (drop i (take k numbers)) ≡ map stamp_of (drop i (take k arrived)) =
      sym (drop-map (stamp_at s calls) i (take k numbers)) ∙ ap (drop i) (sym stamped) ∙ drop-map stamp_of i (take k arrived) in
      ap stamps_of parts
      ∙ same_counts _ _ (sum_by-map (λ o. (counts_in o).delta) stamp_of (drop i (take k arrived))) (sum_by-map (λ o. (counts_in o).rho) stamp_of (drop i (take k arrived)))

  -- what came in between, in both counts
  record AreBounded (i : ℕ) : Type 0 where
    deltas : (hz bound : ℕ) → hz * sum_of (λ p. p.delta) i k arrived ≤ bound
        → IsBounded hz ((came_to calls numbers k).delta - (came_to calls numbers i).delta) (others_between s calls numbers i k).delta (skipped_between s calls numbers i k).delta (back_between s calls numbers i k).delta bound
    rhos : (hz bound : ℕ) → hz * sum_of (λ p. p.rho) i k arrived ≤ bound
        → IsBounded hz ((came_to calls numbers k).rho - (came_to calls numbers i).rho) (others_between s calls numbers i k).rho (skipped_between s calls numbers i k).rho (back_between s calls numbers i k).rho bound

  bounds : (i : ℕ) → i ≤ k → AreBounded i
  bounds i order = elim (cases_lt (up_to k) (up_to i)) [
    | inl less ↦
        (let none = subst (λ xs. IsAtMost (came xs) (came_to calls numbers i)) (sym (front_is k))
        (subst (λ xs. IsAtMost (came (take (up_to k) calls)) (came xs)) (sym (front_is i)) (came-le (up_to k) (up_to i) calls (omega (arith, less)))) in
        record { deltas = λ hz bound h. nothing_came hz _ _ _ _ _ bound none.0; rhos = λ hz bound h. nothing_came hz _ _ _ _ _ bound none.1 })
    | inr le ↦
        (let all = between_fronts s (drop i (take k numbers)) calls (up_to i) (up_to k) le (is_balanced i order) (is_balanced k (omega arith)) in
        let at_i = subst (λ xs. IsAtMost (plus (came (take (up_to k) calls)) (given_back s (drop (length xs) (take (up_to k) calls))))
        (plus (came xs) (plus (stamps_of (map (stamp_at s calls) (drop i (take k numbers))))
        (plus (others_after (drop i (take k numbers)) s xs (drop (length xs) (take (up_to k) calls))) (skipped_after s xs (drop (length xs) (take (up_to k) calls))))))) (sym (front_is i)) all in
        let at_k = subst (λ xs. IsAtMost (plus (came xs) (given_back s (drop (length (calls_to calls numbers i)) xs)))
        (plus (came_to calls numbers i) (plus (stamps_of (map (stamp_at s calls) (drop i (take k numbers))))
        (plus (others_after (drop i (take k numbers)) s (calls_to calls numbers i) (drop (length (calls_to calls numbers i)) xs)) (skipped_after s (calls_to calls numbers i) (drop (length (calls_to calls numbers i)) xs)))))) (sym (front_is k)) at_i in
        let sums = same_sum i in
        record {
          deltas = λ hz bound h. bounded hz _ _ _ _ _ (sum_of (λ p. p.delta) i k arrived) bound (omega (arith, at_k.0, ap (λ (c : Counts). c.delta) sums)) h;
          rhos = λ hz bound h. bounded hz _ _ _ _ _ (sum_of (λ p. p.rho) i k arrived) bound (omega (arith, at_k.1, ap (λ (c : Counts). c.rho) sums)) h;
        })
  ]

-- as many arrived as the granted one says
arrived_all : {T : Type 0} (Is : ℕ → List (Event T) → Type 0) (id : ClientId) (phase : PhaseType) (history : List (Event T)) (span : SpanBy Is id phase history) → IsOf span.token span.cost span.k (arrivals id history)
    → span.k ≤ length (arrivals id history)
arrived_all Is id phase history span granted =
    omega (arith, slice_get_within (arrivals id history) (span.k - 1) granted.arrival granted.here)

module _ {T : Type 0} (ops : Tagging T) (fraction : T → Fraction) (is_value : Fraction → Type 0) (exact : IsExact ops fraction is_value) (order : IsTotalOrder ops.compare) (config : Setting) (some : 0 < config.hz) where
  pub limit_across_shards : LimitAcrossShards ops config
  limit_across_shards = λ history replay id s calls numbers l span never limited before stamped.
      let sums = holds_limit ops fraction is_value exact order config some history replay id l span never limited in
      (sums.0, (bounds (arrivals id history) s calls numbers span.k stamped (arrived_all (IsBehindThoseThatLeft id) id _ history span sums.0) span.i before).deltas config.hz _ sums.1)

  pub reservation_across_shards : ReservationAcrossShards ops config
  reservation_across_shards = λ history replay id s calls numbers r span never reserved before stamped.
      let sums = holds_reservation ops fraction is_value exact order config some history replay id r span never reserved in
      (sums.0, (bounds (arrivals id history) s calls numbers span.k stamped (arrived_all (IsBehindThoseThatLeft id) id _ history span sums.0) span.i before).rhos config.hz _ sums.1)

  pub limit_across_shards_with_cancels : LimitAcrossShardsWithCancels ops config
  limit_across_shards_with_cancels = λ history replay id s calls numbers l span limited before stamped.
      let sums = holds_limit_with_cancels ops fraction is_value exact order config some history replay id l span limited in
      (sums.0, (bounds (arrivals id history) s calls numbers span.k stamped (arrived_all (IsFirstThatWaits id) id _ history span sums.0) span.i before).deltas config.hz _ sums.1)

  pub reservation_across_shards_with_cancels : ReservationAcrossShardsWithCancels ops config
  reservation_across_shards_with_cancels = λ history replay id s calls numbers r span reserved before stamped.
      let sums = holds_reservation_with_cancels ops fraction is_value exact order config some history replay id r span reserved in
      (sums.0, (bounds (arrivals id history) s calls numbers span.k stamped (arrived_all (IsFirstThatWaits id) id _ history span sums.0) span.i before).rhos config.hz _ sums.1)
