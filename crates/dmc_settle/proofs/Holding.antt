-- What was left in a pass, summed, and what the desks of a client took in.
use Rattle.std.proofs.Common.{◌≡◌, ℕ, ◌+◌, ◌*◌, ◌<◌, ◌≤◌, List, [], ◌∷◌, ◌++◌, length, map, take, get_or, refl, sym, ap, ◌∙◌, arith}
use Rattle.std.specs.Prelude.{sum_by}
use Rattle.std.proofs.lemmas.List.{map_push, take_more}
use Rattle.std.proofs.lemmas.List.Sums.{sum_by_push}
use Rattle.dmc_tlock.specs.declared.settled.StampsHeld.{StampsHeld}
use Rattle.dmc_settle.specs.internal.Filled.{AreLeftWithin, IsHeldWithin, all_held, with_held}
use Rattle.dmc_settle.specs.declared.report.StampsLeft.{StampsLeft}

held_more : (held : List StampsHeld) (h : StampsHeld) → all_held (held ++ h ∷ []) ≡ with_held (all_held held) h
held_more held h =
    rw (
      sum_by_push (λ (x : StampsHeld). x.stamps) held h,
      sum_by_push (λ (x : StampsHeld). x.delta) held h,
      sum_by_push (λ (x : StampsHeld). x.rho) held h,
    ) refl

pub held_next : (held : List StampsHeld) (i : ℕ) (d : StampsHeld) → i < length held → all_held (take (i + 1) held) ≡ with_held (all_held (take i held)) (get_or held i d)
held_next held i d within = ap all_held (take_more held i d within) ∙ held_more (take i held) (get_or held i d)

-- the sum of what was left for so many servers
pub record AreSumsOf (i : ℕ) (sum : StampsLeft) : Type 0 where
  pub stamps : sum.stamps ≤ i * 2147483648
  pub delta : sum.delta ≤ i * 4611686018427387904
  pub rho : sum.rho ≤ i * 4611686018427387904

pub held_within : (i : ℕ) (sum : StampsLeft) (left : StampsHeld) → IsHeldWithin left → AreSumsOf i sum → AreSumsOf (i + 1) (with_held sum left)
held_within i sum left few h = record {
  stamps = omega (arith, few.stamps, h.stamps);
  delta = omega (arith, few.delta, h.delta);
  rho = omega (arith, few.rho, h.rho);
}

pub held_far : (i : ℕ) (sum : StampsLeft) → i ≤ 64 → AreSumsOf i sum → AreLeftWithin sum
held_far i sum few h = record {
  stamps = omega (arith, few, h.stamps);
  delta = omega (arith, few, h.delta);
  rho = omega (arith, few, h.rho);
}

-- one of a list more, summed as it is seen
pub sum_next : {X Y : Type 0} (f : Y → ℕ) (g : X → Y) (xs : List X) (i : ℕ) (x : X) → i < length xs → x ≡ get_or xs i x
    → sum_by f (map g (take (i + 1) xs)) ≡ sum_by f (map g (take i xs)) + f (g x)
sum_next f g xs i x within at =
    ap (λ ys. sum_by f (map g ys)) (take_more xs i x within) ∙ ap (sum_by f) (map_push g (take i xs) (get_or xs i x))
    ∙ sum_by_push f (map g (take i xs)) (g (get_or xs i x)) ∙ ap (λ y. sum_by f (map g (take i xs)) + f (g y)) (sym at)
