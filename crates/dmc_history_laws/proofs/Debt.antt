-- Nobody who asks all the time has a debt, if neither client was cancelled: the law with cancels, of which nothing is given back.
use Rattle.std.proofs.Common.{◌≡◌, ℕ, suc, ◌*◌, ◌<◌, List, [], ◌∷◌, map, drop, take, Some, sym, ap, ◌∙◌, subst, arith}
use Rattle.std.specs.Prelude.{ℤ, pos, ◌+ℤ◌, ◌*ℤ◌, ◌≤ℤ◌, slice_get}
use Rattle.std.specs.Cmp.{IsTotalOrder}
use Rattle.std.proofs.lemmas.Int.{ints}
use Rattle.std.proofs.lemmas.List.{take-append-drop}
use Rattle.dmc_types.specs.Values.{Setting}
use Rattle.dmc_types.specs.declared.ids.ClientId.{ClientId}
use Rattle.dmc_types.specs.declared.config.Shares.TheVariants.{Virtual}
use Rattle.dmc_tag.specs.Replay.{replays}
use Rattle.dmc_tag.specs.State.{opening, requests_of}
use Rattle.dmc_tag.specs.Tag.{Fraction, Tagging, IsExact}
use Rattle.dmc_tag.specs.declared.event.Event.{Event}
use Rattle.dmc_tag.specs.declared.plain.QueuedRequest.{QueuedRequest}
use Rattle.dmc_tag.proofs.Scaled.{scaled_swapped, scaled_twice, unscaled_le}
use Rattle.dmc_history_laws.specs.Bounds.{Asked, IsFirstThatWaits, NeverCancelled, arrivals, asked_by, cost_between, departures, given_back, sum_of}
use Rattle.dmc_history_laws.specs.Shares.{Competes, HasWeight, IsAtMost, IsFirst, NoDebt, WaitingCompetes, before, first_queued, last_arrived, spaced_after}
use Rattle.dmc_history_laws.proofs.Asking.{front}
use Rattle.dmc_history_laws.proofs.DebtWithCancels.{no_debt_with_cancels, some_weight}
use Rattle.dmc_history_laws.proofs.Histories.{never_to, replays_split}
use Rattle.dmc_history_laws.proofs.Joined.{one_arrived}
use Rattle.dmc_history_laws.proofs.Never.{first_number, none_given}

-- no spacing after it
none_after : (hz w : ℕ) (f g : Fraction) → 0 < w → IsAtMost f (spaced_after hz w 0 g) → IsAtMost f g
none_after hz w f g some h =
    let none : 0 * hz * g.denom ≡ 0 = omega arith in
    unscaled_le _ _ w some (same_le _ _ _ _ (sym (scaled_twice f.numer g.denom w)) (ap (λ n. (g.numer *ℤ pos w +ℤ pos n) *ℤ pos f.denom) none ∙ ap (λ z. z *ℤ pos f.denom) (and_nothing (g.numer *ℤ pos w)) ∙ scaled_swapped g.numer w f.denom) h)
  where
    same_le : (a b c d : ℤ) → a ≡ c → b ≡ d → a ≤ℤ b → c ≤ℤ d
    same_le a b c d e f h = omega (arith, ints)

    and_nothing : (z : ℤ) → z +ℤ pos 0 ≡ z
    and_nothing z = omega (arith, ints)

module _ {T : Type 0} (ops : Tagging T) (fraction : T → Fraction) (is_value : Fraction → Type 0) (exact : IsExact ops fraction is_value) (order : IsTotalOrder ops.compare) (config : Setting) (some : 0 < config.hz) (virtual : config.shares ≡ Virtual) (history : List (Event T)) (replay : replays ops config history) where
  -- the first queued request is the one behind those that left
  first_waits : (id : ClientId) → NeverCancelled id history → (n : ℕ) (r : QueuedRequest T) → IsFirst ops config history n id r → IsFirstThatWaits id (suc (departures id (take n history))) (take n history)
  first_waits id never n r first =
      let queued = by (requests_of id (before ops config history n).clients) first in
      first_number ops fraction is_value exact order config some id (take n history) (asked_by r) queued.0 (replays_split ops (opening ops config) (take n history) (drop n history) (subst (replays ops config) (sym (take-append-drop n history)) replay)).0 (never_to id n history never) queued.1
    where
      by : (rs : List (QueuedRequest T)) → slice_get rs 0 ≡ Some r → (others : List Asked) × (map asked_by rs ≡ asked_by r ∷ others)
      by [] e = cc
      by (x ∷ rs) e = let same : x ≡ r = cc in (map asked_by rs, ap (λ z. asked_by z ∷ map asked_by rs) same)

  module _ (a b : ClientId) (w_a w_b : ℕ) (c : Competes ops config history a b) (never_a : NeverCancelled a history) (never_b : NeverCancelled b history) (weight_a : HasWeight a w_a (before ops config history (suc c.joined))) (weight_b : HasWeight b w_b (before ops config history (suc c.joined))) where
    abbrev waits : WaitingCompetes ops config history a b
    waits = record {
      joined = c.joined;
      h = c.h;
      h_arrives = c.h_arrives;
      came = c.came;
      x_tags = c.x_tags;
      x_arrives = c.x_arrives;
      first = c.first;
      x = c.x;
      x_granted = c.x_granted;
      x_is = subst (λ n. IsFirstThatWaits a (suc n) (take c.first history)) (sym c.x_is) (first_waits a never_a c.first c.x c.x_granted.first);
      last = c.last;
      y = c.y;
      y_granted = c.y_granted;
      later = c.later;
      in_order = c.in_order;
      asks = c.asks;
      within = c.within;
      b_kept = c.b_kept;
      a_kept = c.a_kept;
    }

    joined_last : c.joined < c.last
    joined_last = omega (arith, c.later, c.in_order)

    b_first : (r : QueuedRequest T) × IsFirst ops config history c.last b r
    b_first = front ops fraction is_value exact order config some virtual history replay b c.joined c.last c.y_granted.event c.y_granted.here c.h c.h_arrives c.asks c.within c.last joined_last (omega arith)

    k_is : IsFirstThatWaits a (first_queued a c.last history) (take c.last history)
    k_is = first_waits a never_a c.last c.y c.y_granted.first

    m_is : IsFirstThatWaits b (first_queued b c.last history) (take c.last history)
    m_is = first_waits b never_b c.last b_first.0 b_first.1

    nothing : given_back a (last_arrived a c.came history) (first_queued a c.last history) (take c.last history) ≡ 0
    nothing = ap (cost_between (last_arrived a c.came history) (first_queued a c.last history)) (none_given a 0 [] (take c.last history) (never_to a c.last history never_a))

    x_number : last_arrived a c.came history ≡ first_queued a c.first history
    x_number = one_arrived a c.came c.x_tags history c.x_arrives ∙ ap suc c.x_is

    abbrev of_h : Fraction
    of_h = spaced_after config.hz w_b (sum_of (λ p. p.delta) (last_arrived b c.joined history) (first_queued b c.last history) (arrivals b history)) (fraction c.h.p)

    abbrev of_x : ℕ → Fraction
    of_x i = spaced_after config.hz w_a (sum_of (λ p. p.delta) i (first_queued a c.last history) (arrivals a history)) (fraction c.x.tags.p)

    indebted : IsAtMost (of_x (first_queued a c.first history)) of_h
    indebted =
        let is = no_debt_with_cancels ops fraction is_value exact order config some virtual history replay a b w_a w_b (first_queued a c.last history) (first_queued b c.last history) waits weight_a weight_b k_is m_is in
        let weight = some_weight ops fraction is_value exact order config some virtual history replay a b w_a w_b (first_queued a c.last history) (first_queued b c.last history) waits weight_a weight_b k_is m_is in
        none_after config.hz w_a (of_x (first_queued a c.first history)) of_h weight
        (subst (λ n. IsAtMost (of_x (first_queued a c.first history)) (spaced_after config.hz w_a n of_h)) nothing
        (subst (λ i. IsAtMost (of_x i) (spaced_after config.hz w_a (given_back a (last_arrived a c.came history) (first_queued a c.last history) (take c.last history)) of_h)) x_number is))

pub no_debt : {T : Type 0} (ops : Tagging T) (fraction : T → Fraction) (is_value : Fraction → Type 0) → IsExact ops fraction is_value → IsTotalOrder ops.compare → (config : Setting) → 0 < config.hz → config.shares ≡ Virtual → NoDebt ops fraction config
no_debt ops fraction is_value exact order config some virtual = λ history replay a b w_a w_b c never_a never_b. indebted ops fraction is_value exact order config some virtual history replay a b w_a w_b c never_a never_b
