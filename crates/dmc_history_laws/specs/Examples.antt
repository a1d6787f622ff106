-- Small histories on which the laws are computed: clients of weight 1, 1,000 ticks a second, whole ticks as tags.
use Rattle.std.specs.Prelude.{◌≡◌, ℕ, zero, suc, ◌+◌, ◌<◌, ◌≤◌, ℤ, pos, ◌≤ℤ◌, true, false, not, List, [], ◌∷◌, ◌++◌, slice_get, Option, Some, None, ⊤}
use Rattle.std.specs.Option.{option_map}
use Rattle.std.proofs.Common.{refl, sym, ap, subst, arith, ⊎_elim}
use Rattle.std.proofs.Math.Nat.{eq-or-lt_of_le}
use Rattle.std.proofs.lemmas.Int.{ints}
use Rattle.dmc_types.specs.declared.ids.ClientId.{ClientId}
use Rattle.dmc_types.specs.declared.command.Command.{Command}
use Rattle.dmc_types.specs.declared.config.Counting.{Counting}
use Rattle.dmc_types.specs.declared.config.Counting.TheVariants.{All, Others}
use Rattle.dmc_types.specs.declared.config.PhaseType.TheVariants.{Reservation, Priority}
use Rattle.dmc_tag.specs.declared.event.Event.{Event}
use Rattle.dmc_tag.specs.declared.reply.Reply.{Reply}
use Rattle.dmc_tag.specs.declared.reply.Reply.TheVariants.{Registered, Later, Removed}
use Rattle.dmc_tag.specs.declared.plain.QueuedRequest.{QueuedRequest}
use Rattle.dmc_tag.specs.declared.reply.Tags.{Tags}
use Rattle.dmc_tag.specs.Best.{is_free}
use Rattle.dmc_tag.specs.State.{requests_of, has_queued, effective}
use Rattle.dmc_tag.proofs.Scaled.{not_above}
use Rattle.dmc_tag.specs.Examples.{virtually, client, add_of_cost, add, cancel, pull, tags, by_reservation, by_priority_of_cost, by_priority, by_priority_beyond}
use Rattle.dmc_tick.specs.Tick.{tick_ops}
use Rattle.dmc_history_laws.specs.Bounds.{Asked, Span, WaitingSpan}
use Rattle.dmc_history_laws.specs.Shares.{before, IsArrival, IsWeightGrant, Competes, WaitingCompetes}

abbrev pub first_client : ClientId
first_client = record { 0 = 1 }

abbrev pub event : Command → Reply ℤ → Event ℤ
event command reply = record { worker = record { 0 = 1 }; command = command; reply = reply }

-- ---- limit 20: a_1 is granted at once, and a_2 and a_3 arrive with delta 1

abbrev pub limited : List (Event ℤ)
limited = event (client 1 None 1 (Some 20) 0) Registered ∷ event (add 1 1 0 0 0) (tags None (pos 0) (pos 0)) ∷ []

abbrev pub at_limit : List (Event ℤ)
at_limit = event (pull 0) (by_priority 1 1) ∷ event (add 1 2 1 0 0) (tags None (pos 50) (pos 1000)) ∷ event (add 1 3 1 0 0) (tags None (pos 100) (pos 2000)) ∷ []

abbrev pub waits : List (Event ℤ)
waits = at_limit ++ event (pull 0) (Later 50) ∷ []

-- under Wait the grant is at 50, under Allow beyond the limit at 0
abbrev pub limit_history : List (Event ℤ)
limit_history = limited ++ (waits ++ event (pull 50) (by_priority 1 2) ∷ [])

abbrev pub beyond_history : List (Event ℤ)
beyond_history = limited ++ (at_limit ++ event (pull 0) (by_priority_beyond 1 2) ∷ [])

-- from a_1, event 1, to the grant of a_2, event 6
abbrev pub limit_span : Span first_client Priority limit_history
limit_span = record {
  i = 1;
  k = 2;
  arrived = 1;
  granted = 6;
  later = omega arith;
  add = event (add 1 1 0 0 0) (tags None (pos 0) (pos 0));
  add_is = refl;
  arrives = refl;
  i_is = refl;
  grant = event (pull 50) (by_priority 1 2);
  grant_is = refl;
  moment = 50;
  pulls = refl;
  token = record { 0 = 2 };
  cost = 1;
  grants = refl;
  k_is = refl;
  kept = (tt, (tt, (tt, (tt, tt))));
}

-- a_2 is taken back, and what it was charged with it: a_3 is granted at 50
abbrev pub taken_back : Counting → List (Event ℤ)
taken_back counting = limited ++ (at_limit ++ event (cancel 1 2 counting) (Removed 1) ∷ [])

abbrev pub taken_back_history : List (Event ℤ)
taken_back_history = taken_back Others ++ event (pull 50) (by_priority 1 3) ∷ []

-- in the form All it was charged nothing, and a_3 is granted at 100
abbrev pub uncharged_history : List (Event ℤ)
uncharged_history = taken_back All ++ event (pull 50) (Later 100) ∷ event (pull 100) (by_priority 1 3) ∷ []

-- from a_1, event 1, to the grant of a_3, event 6
abbrev pub taken_back_span : WaitingSpan first_client Priority taken_back_history
taken_back_span = record {
  i = 1;
  k = 3;
  arrived = 1;
  granted = 6;
  later = omega arith;
  add = event (add 1 1 0 0 0) (tags None (pos 0) (pos 0));
  add_is = refl;
  arrives = refl;
  i_is = refl;
  grant = event (pull 50) (by_priority 1 3);
  grant_is = refl;
  moment = 50;
  pulls = refl;
  token = record { 0 = 3 };
  cost = 1;
  grants = refl;
  k_is = refl;
  kept = (tt, (tt, (tt, (tt, tt))));
}

-- ---- reservation 10, no limit: a_1 is granted at once, and a_2 arrives with rho 1

abbrev pub reserved : List (Event ℤ)
reserved = event (client 1 (Some 10) 1 None 0) Registered ∷ event (add 1 1 0 0 0) (tags (Some (pos 0)) (pos 0) (pos 0)) ∷ []

abbrev pub at_reservation : List (Event ℤ)
at_reservation = event (pull 0) (by_reservation 1 1) ∷ event (add 1 2 1 1 0) (tags (Some (pos 100)) (pos 0) (pos 1000)) ∷ []

abbrev pub reservation_history : List (Event ℤ)
reservation_history = reserved ++ (at_reservation ++ event (pull 100) (by_reservation 1 2) ∷ [])

-- a_3 arrives with rho 1, and a_2 is taken back: a_3 is granted at 100
abbrev pub taken_back_reservation : List (Event ℤ)
taken_back_reservation = reserved ++ (at_reservation ++ event (add 1 3 1 1 0) (tags (Some (pos 200)) (pos 0) (pos 2000)) ∷ event (cancel 1 2 Others) (Removed 1) ∷ event (pull 100) (by_reservation 1 3) ∷ [])

-- a_2 is granted by weight, which takes one spacing off the R of a_3
abbrev pub with_priority : List (Event ℤ)
with_priority = at_reservation ++ event (add 1 3 1 1 0) (tags (Some (pos 200)) (pos 0) (pos 2000)) ∷ event (pull 0) (by_priority 1 2) ∷ []

abbrev pub third_at_100 : List (Event ℤ)
third_at_100 = event (pull 100) (by_reservation 1 3) ∷ []

abbrev pub priority_history : List (Event ℤ)
priority_history = reserved ++ (with_priority ++ third_at_100)

-- from a_1, event 1, to the grant of a_3, event 6
abbrev pub priority_span : Span first_client Reservation priority_history
priority_span = record {
  i = 1;
  k = 3;
  arrived = 1;
  granted = 6;
  later = omega arith;
  add = event (add 1 1 0 0 0) (tags (Some (pos 0)) (pos 0) (pos 0));
  add_is = refl;
  arrives = refl;
  i_is = refl;
  grant = event (pull 100) (by_reservation 1 3);
  grant_is = refl;
  moment = 100;
  pulls = refl;
  token = record { 0 = 3 };
  cost = 1;
  grants = refl;
  k_is = refl;
  kept = (tt, (tt, (tt, (tt, tt))));
}

-- with limit 20 too, under Allow: as without it, but a_2 is granted beyond
abbrev pub both : List (Event ℤ)
both = event (client 1 (Some 10) 1 (Some 20) 0) Registered ∷ event (add 1 1 0 0 0) (tags (Some (pos 0)) (pos 0) (pos 0)) ∷ []

abbrev pub with_beyond : List (Event ℤ)
with_beyond = event (pull 0) (by_reservation 1 1) ∷ event (add 1 2 1 1 0) (tags (Some (pos 100)) (pos 50) (pos 1000)) ∷ event (add 1 3 1 1 0) (tags (Some (pos 200)) (pos 100) (pos 2000)) ∷ event (pull 0) (by_priority_beyond 1 2) ∷ []

abbrev pub both_history : List (Event ℤ)
both_history = both ++ (with_beyond ++ third_at_100)

-- ---- the same reservation: a_2 has cost 4 and is granted by weight, which takes four spacings off the R of a_3

abbrev pub second_of_cost_4 : List (Event ℤ)
second_of_cost_4 = event (add_of_cost 4 1 2 8 8 0) (tags (Some (pos 800)) (pos 0) (pos 8000)) ∷ event (add 1 3 4 4 0) (tags (Some (pos 1200)) (pos 0) (pos 12000)) ∷ []

-- what a request of this token and this cost is asked with
abbrev pub asked : ℕ → ℕ → Asked
asked token cost = record { token = record { 0 = token }; cost = cost }

abbrev pub cost_history : List (Event ℤ)
cost_history = reserved ++ (second_of_cost_4 ++ event (pull 0) (by_reservation 1 1) ∷ event (pull 0) (by_priority_of_cost 4 1 2) ∷ event (pull 800) (by_reservation 1 3) ∷ [])

-- from a_1, event 1, to the grant of a_3, event 6
abbrev pub cost_span : Span first_client Reservation cost_history
cost_span = record {
  i = 1;
  k = 3;
  arrived = 1;
  granted = 6;
  later = omega arith;
  add = event (add 1 1 0 0 0) (tags (Some (pos 0)) (pos 0) (pos 0));
  add_is = refl;
  arrives = refl;
  i_is = refl;
  grant = event (pull 800) (by_reservation 1 3);
  grant_is = refl;
  moment = 800;
  pulls = refl;
  token = record { 0 = 3 };
  cost = 1;
  grants = refl;
  k_is = refl;
  kept = (tt, (tt, (tt, (tt, tt))));
}

-- ---- no credit: client 2 comes after a_1 of client 1 was granted, and its first request has delta 0

abbrev pub second_client : ClientId
second_client = record { 0 = 2 }

-- the tags of a client without a reservation and a limit, and a request of it, whose P is so far past what it was compared with
abbrev pub shared : ℤ → Tags ℤ
shared p = record { r = None; l = pos 0; p = p }

abbrev pub request : ℕ → ℤ → ℤ → QueuedRequest ℤ
request token p past = record { token = record { 0 = token }; cost = 1; tags = shared p; slack = record { r = pos 0; l = pos 0; p = past } }

abbrev pub two_clients : List (Event ℤ)
two_clients = event (client 1 None 1 None 0) Registered ∷ event (client 2 None 1 None 0) Registered ∷ []

abbrev pub served : List (Event ℤ)
served = event (add 1 11 1 0 0) (tags None (pos 0) (pos 1000)) ∷ event (pull 0) (by_priority 1 11) ∷ []

-- in virtual time client 2 starts where client 1 is; by the clock it starts at 0
abbrev pub credit_history : List (Event ℤ)
credit_history = two_clients ++ (served ++ event (add 2 21 0 0 0) (tags None (pos 0) (pos 1000)) ∷ [])

abbrev pub clock_credit_history : List (Event ℤ)
clock_credit_history = two_clients ++ (served ++ event (add 2 21 0 0 0) (tags None (pos 0) (pos 0)) ∷ [])

-- the grant, event 3, and the arrival, event 4
abbrev pub credit_grant : IsWeightGrant tick_ops virtually credit_history 3 first_client (request 11 (pos 1000) (pos 1000))
credit_grant = record {
  event = event (pull 0) (by_priority 1 11);
  here = refl;
  moment = 0;
  pulls = refl;
  beyond = false;
  grants = refl;
  first = refl;
}

abbrev pub credit_arrival : IsArrival credit_history 4 second_client (shared (pos 1000))
credit_arrival = record { event = event (add 2 21 0 0 0) (tags None (pos 0) (pos 1000)); here = refl; arrives = refl; tags_are = refl }

abbrev pub clock_arrival : IsArrival clock_credit_history 4 second_client (shared (pos 0))
clock_arrival = record { event = event (add 2 21 0 0 0) (tags None (pos 0) (pos 0)); here = refl; arrives = refl; tags_are = refl }

-- ---- no debt: client 2 joins, and from then on both ask all the time

abbrev pub joins : List (Event ℤ)
joins = event (add 1 11 1 0 0) (tags None (pos 0) (pos 1000)) ∷ event (add 1 12 1 0 0) (tags None (pos 0) (pos 2000)) ∷ event (pull 0) (by_priority 1 11) ∷ event (add 2 21 1 0 0) (tags None (pos 0) (pos 1000)) ∷ event (add 1 13 1 0 0) (tags None (pos 0) (pos 3000)) ∷ event (add 2 22 1 0 0) (tags None (pos 0) (pos 2000)) ∷ event (add 2 23 1 0 0) (tags None (pos 0) (pos 3000)) ∷ []

abbrev pub in_turn : List (Event ℤ)
in_turn = event (pull 0) (by_priority 2 21) ∷ event (pull 0) (by_priority 1 12) ∷ event (pull 0) (by_priority 2 22) ∷ event (pull 0) (by_priority 1 13) ∷ []

abbrev pub debt_history : List (Event ℤ)
debt_history = two_clients ++ (joins ++ in_turn)

-- ---- client 2 competes with client 1 there: it joins at event 5, and a_2 and a_3 of client 1 are granted at events 10 and 12

-- each of this many numbers, from the first one on
abbrev Each : (ℕ → Type 0) → ℕ → ℕ → Type 0
Each P first zero = ⊤
Each P first (suc count) = P first × Each P (suc first) count

pub one_of : (P : ℕ → Type 0) (first count number : ℕ) → Each P first count → first ≤ number → number < first + count → P number
one_of P first zero number all from to = absurd (omega (arith, from, to))
one_of P first (suc count) number all from to = ⊎_elim (λ same. subst P same all.0) (λ more. one_of P (suc first) count number all.1 (omega (arith, more)) (omega (arith, to))) (eq-or-lt_of_le from)

-- the L of client 2's first request, if it has one
abbrev first_l : List (Event ℤ) → ℕ → Option ℤ
first_l history number = option_map (λ r. r.tags.l) (slice_get (requests_of second_client (before tick_ops virtually history number).clients) 0)

-- what is free at 0 is free at each moment
pub free_from_zero : (r : QueuedRequest ℤ) (t : ℕ) → r.tags.l ≡ pos 0 → is_free tick_ops t r ≡ true
free_from_zero r t e = ap not (not_above r.tags.l (pos t) _ refl (subst (λ z. z ≤ℤ pos t) (sym e) (omega (arith, ints))))

pub free_front : (history : List (Event ℤ)) (number : ℕ) (front : QueuedRequest ℤ) (t : ℕ) → first_l history number ≡ Some (pos 0) → first_l history number ≡ Some front.tags.l → is_free tick_ops t front ≡ true
free_front history number front t l_is same = free_from_zero front t (cc (l_is, same))

abbrev pub competing : Competes tick_ops virtually debt_history first_client second_client
competing = record {
  joined = 5;
  h = shared (pos 1000);
  h_arrives = record { event = event (add 2 21 1 0 0) (tags None (pos 0) (pos 1000)); here = refl; arrives = refl; tags_are = refl };
  came = 3;
  x_tags = shared (pos 2000);
  x_arrives = record { event = event (add 1 12 1 0 0) (tags None (pos 0) (pos 2000)); here = refl; arrives = refl; tags_are = refl };
  first = 10;
  x = request 12 (pos 2000) (pos 2000);
  x_granted = record { event = event (pull 0) (by_priority 1 12); here = refl; moment = 0; pulls = refl; beyond = false; grants = refl; first = refl };
  x_is = refl;
  last = 12;
  y = request 13 (pos 3000) (pos 2000);
  y_granted = record { event = event (pull 0) (by_priority 1 13); here = refl; moment = 0; pulls = refl; beyond = false; grants = refl; first = refl };
  later = omega arith;
  in_order = omega arith;
  asks = λ number from to. one_of (λ n. has_queued second_client (before tick_ops virtually debt_history n).clients ≡ true) 6 7 number (refl, (refl, (refl, (refl, (refl, (refl, (refl, tt))))))) (omega (arith, from)) (omega (arith, to));
  within = λ number client request front grant from to _ first.
      let l_is : first_l debt_history number ≡ Some (pos 0) = one_of (λ n. first_l debt_history n ≡ Some (pos 0)) 6 7 number (refl, (refl, (refl, (refl, (refl, (refl, (refl, tt))))))) (omega (arith, from)) (omega (arith, to)) in
      let same : first_l debt_history number ≡ Some front.tags.l = ap (option_map (λ (r : QueuedRequest ℤ). r.tags.l)) first in
      free_front debt_history number front (effective (before tick_ops virtually debt_history number) grant.moment) l_is same;
  b_kept = (tt, (tt, (tt, (tt, (tt, (tt, tt))))));
  a_kept = (tt, (tt, (tt, (tt, (tt, (tt, (tt, (tt, tt))))))));
}

-- ---- a_3 of client 1 is taken back after a_2 was granted: a_4 has P 3,000 from then on

abbrev pub joins_longer : List (Event ℤ)
joins_longer = event (add 1 11 1 0 0) (tags None (pos 0) (pos 1000)) ∷ event (add 1 12 1 0 0) (tags None (pos 0) (pos 2000)) ∷ event (pull 0) (by_priority 1 11) ∷ event (add 2 21 1 0 0) (tags None (pos 0) (pos 1000)) ∷ event (add 1 13 1 0 0) (tags None (pos 0) (pos 3000)) ∷ event (add 1 14 1 0 0) (tags None (pos 0) (pos 4000)) ∷ event (add 2 22 1 0 0) (tags None (pos 0) (pos 2000)) ∷ event (add 2 23 1 0 0) (tags None (pos 0) (pos 3000)) ∷ []

abbrev pub without_third : List (Event ℤ)
without_third = event (pull 0) (by_priority 2 21) ∷ event (pull 0) (by_priority 1 12) ∷ event (cancel 1 13 Others) (Removed 1) ∷ event (pull 0) (by_priority 2 22) ∷ event (pull 0) (by_priority 1 14) ∷ []

abbrev pub taken_back_debt : List (Event ℤ)
taken_back_debt = two_clients ++ (joins_longer ++ without_third)

abbrev pub competing_still : WaitingCompetes tick_ops virtually taken_back_debt first_client second_client
competing_still = record {
  joined = 5;
  h = shared (pos 1000);
  h_arrives = record { event = event (add 2 21 1 0 0) (tags None (pos 0) (pos 1000)); here = refl; arrives = refl; tags_are = refl };
  came = 3;
  x_tags = shared (pos 2000);
  x_arrives = record { event = event (add 1 12 1 0 0) (tags None (pos 0) (pos 2000)); here = refl; arrives = refl; tags_are = refl };
  first = 11;
  x = request 12 (pos 2000) (pos 2000);
  x_granted = record { event = event (pull 0) (by_priority 1 12); here = refl; moment = 0; pulls = refl; beyond = false; grants = refl; first = refl };
  x_is = refl;
  last = 14;
  y = request 14 (pos 3000) (pos 1000);
  y_granted = record { event = event (pull 0) (by_priority 1 14); here = refl; moment = 0; pulls = refl; beyond = false; grants = refl; first = refl };
  later = omega arith;
  in_order = omega arith;
  asks = λ number from to. one_of (λ n. has_queued second_client (before tick_ops virtually taken_back_debt n).clients ≡ true) 6 9 number (refl, (refl, (refl, (refl, (refl, (refl, (refl, (refl, (refl, tt))))))))) (omega (arith, from)) (omega (arith, to));
  within = λ number client request front grant from to _ first.
      let l_is : first_l taken_back_debt number ≡ Some (pos 0) = one_of (λ n. first_l taken_back_debt n ≡ Some (pos 0)) 6 9 number (refl, (refl, (refl, (refl, (refl, (refl, (refl, (refl, (refl, tt))))))))) (omega (arith, from)) (omega (arith, to)) in
      let same : first_l taken_back_debt number ≡ Some front.tags.l = ap (option_map (λ (r : QueuedRequest ℤ). r.tags.l)) first in
      free_front taken_back_debt number front (effective (before tick_ops virtually taken_back_debt number) grant.moment) l_is same;
  b_kept = (tt, (tt, (tt, (tt, (tt, (tt, (tt, (tt, tt))))))));
  a_kept = (tt, (tt, (tt, (tt, (tt, (tt, (tt, (tt, (tt, (tt, tt))))))))));
}

-- ---- a limit of 20 holds client 2 back, while client 1 goes on

abbrev pub held_back_history : List (Event ℤ)
held_back_history = event (client 1 None 1 None 0) Registered ∷ event (client 2 None 1 (Some 20) 0) Registered ∷ event (add 2 21 1 0 0) (tags None (pos 50) (pos 1000)) ∷ event (add 1 11 1 0 0) (tags None (pos 0) (pos 1000)) ∷ event (add 1 12 1 0 0) (tags None (pos 0) (pos 2000)) ∷ event (pull 0) (by_priority 1 11) ∷ event (pull 0) (by_priority 1 12) ∷ []
