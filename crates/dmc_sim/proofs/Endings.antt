-- How calls end, and how turns are taken one after another.
use Rattle.std.proofs.Common.{◌≡◌, ◌≢◌, ℕ, ◌+◌, ◌<◌, true, false, List, ◌∷◌, length, get_or, drop, set, sym, ap, ◌∙◌, subst, inl, inr, arith, add-one, drop-cons, Result, Ok, Err}
use Rattle.std.specs.Prelude.{All, IsErrAnd, ◌⊎◌, eqb}
use Rattle.std.proofs.lemmas.Bool.Decides.{eqb_tells}
use Rattle.std.proofs.lemmas.List.{get_or-set_same, get_or-set_other, length-set}
use Rattle.dmc_types.specs.declared.refusal.Refusal.{Refusal}
use Rattle.dmc_tag.specs.Outcome.{◌>>=◌}
use Rattle.dmc_sim.specs.Simulation.{Sim, each_in_turn}
use Rattle.dmc_sim.specs.internal.Simulations.{Ends, Gives}
use Rattle.dmc_sim.specs.declared.report.SimFault.{SimFault}
use Rattle.dmc_sim.specs.declared.report.SimFault.TheVariants as faults

-- a fault that is passed on
pub passed_on : {X A : Type 0} (given : Result X Refusal) (After : A → X → Type 0) (fault : SimFault) (result : Result A SimFault) → IsErrAnd result (λ e. e ≡ fault) → Ends given After (Err fault) → Ends given After result
passed_on given After fault (Ok done) is h = absurd is
passed_on given After fault (Err e) is h = subst (λ f. Ends given After (Err f)) (sym is) h

-- so is that of a part, which is a refusal of the whole
pub passed_up : {X Y A B : Type 0} (part : Result X Refusal) (whole : Result Y Refusal) (P : A → X → Type 0) (Q : B → Y → Type 0) (fault : SimFault) (result : Result B SimFault) → IsErrAnd result (λ e. e ≡ fault)
    → ((refusal : Refusal) → part ≡ Err refusal → whole ≡ Err refusal) → Ends part P (Err fault) → Ends whole Q result
passed_up part whole P Q (faults.Refused refusal) result passed up h = passed_on whole Q (faults.Refused refusal) result passed (up refusal h)
passed_up part whole P Q faults.Memory result passed up h = passed_on whole Q faults.Memory result passed tt

-- what ends as this ends as that does, if each value of the one is one of the other
pub ends_as : {X A : Type 0} (part whole : Result X Refusal) (P Q : A → X → Type 0) (result : Result A SimFault) → whole ≡ part → ((done : A) (x : X) → part ≡ Ok x → P done x → Q done x) → Ends part P result → Ends whole Q result
ends_as part whole P Q (Ok done) same holds h = record { value = h.value; is = same ∙ h.is; holds = holds done h.value h.is h.holds }
ends_as part whole P Q (Err (faults.Refused refusal)) same holds h = same ∙ h
ends_as part whole P Q (Err faults.Memory) same holds h = tt

-- The whole ends as the rest does from this value, of which P holds.
pub record Reaches {X Y : Type 0} (whole : Result Y Refusal) (rest : X → Result Y Refusal) (P : X → Type 0) : Type 0 where
  pub value : X
  pub is : whole ≡ rest value
  pub holds : P value

module _ {X T : Type 0} (turn : X → Sim T → Result (Sim T) Refusal) (xs : List X) (i : ℕ) (d : X) (within : i < length xs) where
  here : (u : Sim T) → each_in_turn turn (drop i xs) u ≡ (turn (get_or xs i d) u >>= λ (v : Sim T). each_in_turn turn (drop (i + 1) xs) v)
  here u =
      let next : drop i xs ≡ get_or xs i d ∷ drop (i + 1) xs = rw add-one (drop-cons xs i d within) in
      ap (λ ys. each_in_turn turn ys u) next

  module _ (whole : Result (Sim T) Refusal) (P : Sim T → Type 0) (r : Reaches whole (each_in_turn turn (drop i xs)) P) where
    -- the next turn is taken
    pub turn_taken : (Q : Sim T → Type 0) → Gives (turn (get_or xs i d) r.value) Q → Reaches whole (each_in_turn turn (drop (i + 1) xs)) Q
    turn_taken Q given = record {
      value = given.value;
      is = r.is ∙ here r.value ∙ ap (λ v. v >>= λ (w : Sim T). each_in_turn turn (drop (i + 1) xs) w) given.is;
      holds = given.holds;
    }

    -- it is refused
    pub turn_refused : (refusal : Refusal) → turn (get_or xs i d) r.value ≡ Err refusal → whole ≡ Err refusal
    turn_refused refusal e = r.is ∙ here r.value ∙ ap (λ v. v >>= λ (w : Sim T). each_in_turn turn (drop (i + 1) xs) w) e

-- if one item is written, what holds of it and of all others holds of all
pub all_with : {A : Type 0} (P : A → Type 0) (xs : List A) (i : ℕ) (a : A) → P a → ((k : ℕ) (d : A) → k < length xs → k ≢ i → P (get_or xs k d)) → All P (set xs i a)
all_with P xs i a p others = λ k d w. by k d (omega (arith, w, length-set xs i a)) (eqb_tells k i)
  where
    by : (k : ℕ) (d : _) → k < length xs → ((eqb k i ≡ true) × (k ≡ i)) ⊎ ((eqb k i ≡ false) × (k ≢ i)) → P (get_or (set xs i a) k d)
    by k d w (inl same) = subst (λ (n : ℕ). P (get_or (set xs i a) n d)) (sym same.1) (subst P (sym (get_or-set_same xs i a d (omega (arith, w, same.1)))) p)
    by k d w (inr other) = subst P (sym (get_or-set_other xs i k a d other.1)) (others k d w other.1)
