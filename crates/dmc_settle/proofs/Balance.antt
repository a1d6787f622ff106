-- A tracker book that is settled, and the settled desks of its client.
use Rattle.std.proofs.Common.{◌≡◌, ℕ, ◌+◌, ◌<◌, List, [], ◌∷◌, length, map, get_or, refl, sym, ap, ◌∙◌, subst, arith}
use Rattle.std.specs.Prelude.{sum_by}
use Rattle.std.proofs.lemmas.List.{get_or-map}
use Rattle.std.proofs.lemmas.List.Sums.{sum_by-cons}
use Rattle.dmc_types.specs.declared.ids.ServerId.{ServerId}
use Rattle.dmc_types.specs.declared.config.PhaseType.TheVariants.{Reservation, Priority}
use Rattle.dmc_tracker.proofs.ForCallers.{stamps-le-length, responses-le-length}
use Rattle.dmc_ledger.specs.Bundles.{ClientSide, ServerSide, StampHoldings}
use Rattle.dmc_tlock.specs.BookState.{BookState, desk_at, no_side, no_tills, tills_at}
use Rattle.dmc_tlock.specs.Consistent.{IsConsistent}
use Rattle.dmc_tlock.specs.Settling.{AreGathered, IsSettledDesk, held_of, side_after_gather}
use Rattle.dmc_tlock.specs.declared.settled.StampsHeld.{StampsHeld}
use Rattle.dmc_tlock.proofs.ForCallers.{has_room}
use Rattle.dmc_settle.specs.internal.Filled.{IsAudited, IsBalancedPair, IsClosing, IsHeldWithin, IsLastPair, IsReadyClient, all_held, responses_held}
use Rattle.dmc_settle.specs.internal.Places.{desk_of, no_held}
use Rattle.dmc_settle.specs.Reports.{all_responses, responses_of, stamps_left}
use Rattle.dmc_settle.proofs.Sums.{sum_to, sum_places, same_sum, sum_range}

pub sum_seen : {X Y : Type 0} (f : Y → ℕ) (g : X → Y) (xs : List X) → sum_by f (map g xs) ≡ sum_by (λ x. f (g x)) xs
sum_seen f g [] = refl
sum_seen f g (x ∷ xs) =
    let rest = sum_seen f g xs in
    sum_by-cons f (g x) (map g xs) ∙ ap (λ n. f (g x) + n) rest ∙ sym (sum_by-cons (λ y. f (g y)) x xs)

pub held_is : (pass : List StampHoldings) → all_held (map held_of pass) ≡ stamps_left pass
held_is pass =
    rw (
      sum_seen (λ (h : StampsHeld). h.stamps) held_of pass,
      sum_seen (λ (h : StampsHeld). h.delta) held_of pass,
      sum_seen (λ (h : StampsHeld). h.rho) held_of pass,
    ) refl

-- the pair is what it was once the pass's tills are gathered
last_gathered : (d : ClientSide) (t : ServerSide) (tills : StampHoldings) → IsLastPair d t → IsLastPair d (side_after_gather tills t)
last_gathered d t tills h = record {
  paired = record {
    stamps = h.paired.stamps;
    delta = h.paired.delta;
    rho = h.paired.rho;
    reservation = h.paired.reservation;
    priority = h.paired.priority;
  };
  reservation = h.reservation;
  priority = h.priority;
}

module _ (b : BookState) (pass : List StampHoldings) (settled : List ServerSide) (consistent : IsConsistent b) (gathered : AreGathered pass b.desks settled)
    (each : (s : ServerId) → s.0 < length b.desks → IsSettledDesk b.client b.events s (tills_at pass s) (desk_at settled s)) where
  pub is_closing : (desks : List (List ClientSide)) (c : ℕ) → IsReadyClient desks c b pass → (s : ℕ) → s < length desks → IsClosing (desk_of desks s c) (get_or settled s no_side)
  is_closing desks c ready s within =
      let id : ServerId = record { 0 = s } in
      let inside : s < length b.desks = omega (arith, within, ready.as_many) in
      let now = each id inside in
      let few = stamps-le-length id b.events in
      let reservations = responses-le-length id b.events Reservation in
      let priorities = responses-le-length id b.events Priority in
      record {
        last = subst (λ (t : ServerSide). IsLastPair (desk_of desks s c) t) (sym (gathered.each id inside)) (last_gathered (desk_of desks s c) (get_or b.desks s no_side) (tills_at pass id) (ready.pairs s within));
        stamps = now.books.stamps.open_tills;
        delta = now.books.delta.open_tills;
        rho = now.books.rho.open_tills;
        few_stamps = omega (arith, few, now.books.stamps.total, ready.whole, consistent.within, consistent.limit);
        few_responses = omega (arith, reservations, priorities, now.held.reservation.grants, now.held.priority.grants, ready.whole, consistent.within, consistent.limit);
      }

  pub is_balanced : (d : ClientSide) (s : ℕ) → s < length b.desks → IsAudited d (get_or settled s no_side) → IsBalancedPair d (record { 0 = s }) b.events (tills_at pass (record { 0 = s }))
  is_balanced d s within h =
      let now = each (record { 0 = s }) within in
      record {
        stamps = omega (arith, h.stamps, now.books.stamps.total, now.books.stamps.gathered);
        delta = omega (arith, h.delta, now.books.delta.total, now.books.delta.gathered);
        rho = omega (arith, h.rho, now.books.rho.total, now.books.rho.gathered);
        reservation = record {
          grants = omega (arith, h.reservation.grants, now.held.reservation.grants);
          cost = omega (arith, h.reservation.cost, now.held.reservation.cost);
        };
        priority = record {
          grants = omega (arith, h.priority.grants, now.held.priority.grants);
          cost = omega (arith, h.priority.cost, now.held.priority.cost);
        };
      }

  pub held_few : length pass ≡ length b.desks → b.first ≡ 0 → (s : ℕ) → s < length pass → IsHeldWithin (get_or (map held_of pass) s no_held)
  held_few as_many whole s within =
      let id : ServerId = record { 0 = s } in
      let inside : s < length b.desks = omega (arith, within, as_many) in
      let room = has_room b id inside consistent in
      let held = gathered.within id inside in
      let most = consistent.counted.limit in
      subst IsHeldWithin (sym (get_or-map held_of pass s no_tills no_held within)) (record {
        stamps = omega (arith, room.stamps, held.stamps, whole, consistent.within, consistent.limit);
        delta = omega (arith, room.delta, held.delta, most);
        rho = omega (arith, room.rho, held.rho, most);
      })

  pub completed_is : sum_by responses_held settled ≡ all_responses (length b.desks) b.events
  completed_is =
      sum_places responses_held settled no_side ∙ ap (λ n. sum_to n (λ k. responses_held (get_or settled k no_side))) gathered.as_many
      ∙ same_sum (length b.desks) (λ k. responses_held (get_or settled k no_side)) (λ k. responses_of (record { 0 = k }) b.events)
      (λ k within. (let held = (each (record { 0 = k }) within).held in omega (arith, held.reservation.grants, held.priority.grants)))
      ∙ sym (sum_range (λ k. responses_of (record { 0 = k }) b.events) (length b.desks))
