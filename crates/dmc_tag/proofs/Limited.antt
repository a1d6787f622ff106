-- The last test of an add, that of its client's limit.
use Rattle.std.proofs.Common.{◌≡◌, ℕ, Bool, true, false, Result, Ok, Err, refl, sym, ap, ◌∙◌}
use Rattle.dmc_types.specs.Values.{Params}
use Rattle.dmc_types.specs.declared.ids.ClientId.{ClientId}
use Rattle.dmc_types.specs.declared.refusal.Refusal.{Refusal}
use Rattle.dmc_types.specs.declared.refusal.Refusal.TheVariants.{OverLimit}
use Rattle.dmc_tag.specs.Outcome.{◌>>=◌, refuse_if}
use Rattle.dmc_tag.specs.Rules.{Addition, add_tags, can_add, is_over_limit}
use Rattle.dmc_tag.specs.State.{State}
use Rattle.dmc_tag.specs.Tag.{Tagging}

module _ {T : Type 0} (ops : Tagging T) (s : State T) (id : ClientId) (params : Params) (t : ℕ) where
  abbrev is_over : Addition T → Bool
  is_over addition = is_over_limit ops s.config.at_limit t addition.tags.l

  abbrev if_within : Bool → Addition T → Result (Addition T) Refusal
  if_within over addition = refuse_if over OverLimit >>= λ _. Ok addition

  abbrev tested : Result (Addition T) Refusal → Result (Addition T) Refusal
  tested tagged = tagged >>= λ addition. if_within (is_over addition) addition

  pub tags_refused : (refusal : Refusal) → add_tags ops s id params (ops.of_moment t) ≡ Err refusal → can_add ops s id params t ≡ Err refusal
  tags_refused refusal e = ap tested e

  module _ (addition : Addition T) where
    pub over_limit : add_tags ops s id params (ops.of_moment t) ≡ Ok addition → is_over addition ≡ true → can_add ops s id params t ≡ Err OverLimit
    over_limit e over = ap tested e ∙ ap (λ b. if_within b addition) over

    pub within_limit : add_tags ops s id params (ops.of_moment t) ≡ Ok addition → is_over addition ≡ false → can_add ops s id params t ≡ Ok addition
    within_limit e within = ap tested e ∙ ap (λ b. if_within b addition) within

    -- what passed the tests was tagged, and is within the limit
    pub was_tagged : can_add ops s id params t ≡ Ok addition → (add_tags ops s id params (ops.of_moment t) ≡ Ok addition) × (is_over addition ≡ false)
    was_tagged = by (add_tags ops s id params (ops.of_moment t)) refl where
      by_limit : (tagged : Addition T) → add_tags ops s id params (ops.of_moment t) ≡ Ok tagged → (over : Bool) → is_over tagged ≡ over → if_within over tagged ≡ Ok addition
          → (add_tags ops s id params (ops.of_moment t) ≡ Ok addition) × (is_over addition ≡ false)
      by_limit tagged e true over h = cc
      by_limit tagged e false within h = let same : tagged ≡ addition = cc in (e ∙ ap Ok same, ap is_over (sym same) ∙ within)

      by : (r : Result (Addition T) Refusal) → add_tags ops s id params (ops.of_moment t) ≡ r → tested r ≡ Ok addition
          → (add_tags ops s id params (ops.of_moment t) ≡ Ok addition) × (is_over addition ≡ false)
      by (Ok tagged) e h = by_limit tagged e (is_over tagged) refl h
      by (Err refusal) e h = cc
