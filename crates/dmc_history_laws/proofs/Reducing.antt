-- What a grant takes off the tags of its client.
use Rattle.std.proofs.Common.{◌≡◌, ℕ, Option, Some, None, Ok, refl, ◌∙◌, subst}
use Rattle.std.specs.Prelude.{⊤}
use Rattle.dmc_types.specs.declared.config.PhaseType.{PhaseType}
use Rattle.dmc_types.specs.declared.config.PhaseType.TheVariants.{Reservation, Priority}
use Rattle.dmc_tag.specs.Tag.{Fraction, Tagging, IsExact}
use Rattle.dmc_tag.specs.Outcome.{in_range}
use Rattle.dmc_tag.specs.State.{PlainClient}
use Rattle.dmc_tag.specs.Laws.{IsReduction}
use Rattle.dmc_tag.specs.Rules as rules_of
use Rattle.dmc_tag.proofs.TagOrder.{bound, from_range}
use Rattle.dmc_history_laws.proofs.Pace.{IsSpacings}
use Rattle.dmc_history_laws.proofs.Side.{Side, limits, reservations, rate_in}

module _ {T : Type 0} (ops : Tagging T) (fraction : T → Fraction) (is_value : Fraction → Type 0) (exact : IsExact ops fraction is_value) (hz q : ℕ) where
  -- what is taken off R is a spacing of the reservation for each unit of the cost
  abbrev pub IsOff : Side → PhaseType → ℕ → Option T → Type 0
  IsOff side Reservation cost amount = amount ≡ None
  IsOff limits Priority cost amount = ⊤
  IsOff reservations Priority cost None = ⊤
  IsOff reservations Priority cost (Some amount) = IsSpacings ops hz q cost amount

  reservation_off : (c : PlainClient T) (cost : ℕ) (amount : T) → c.info.reservation ≡ Some q → rules_of.reduction_at ops hz c.info.reservation cost ≡ Ok (Some amount) → IsSpacings ops hz q cost amount
  reservation_off c cost amount rated e =
      let spaced = bound (in_range (ops.spacing hz q)) _ (Some amount) (subst (λ o. rules_of.reduction_at ops hz o cost ≡ Ok (Some amount)) rated e) in
      let stepped = bound (in_range (ops.steps spaced.0 cost)) _ (Some amount) spaced.2 in
      record { spacing = spaced.0; spaced = from_range _ _ spaced.1; steps = from_range _ _ stepped.1 ∙ cc (stepped.2) }

  pub off : (c : PlainClient T) (side : Side) (phase : PhaseType) (cost : ℕ) (amount : Option T) → rate_in side c.info ≡ Some q → IsReduction ops hz c cost phase amount → IsOff side phase cost amount
  off c side Reservation cost amount rated is = is
  off c limits Priority cost amount rated is = tt
  off c reservations Priority cost None rated is = tt
  off c reservations Priority cost (Some amount) rated is = reservation_off c cost amount rated is

  pub info_reduced : (amount : Option T) (c : PlainClient T) → (rules_of.reduced_by ops amount c).info ≡ c.info
  info_reduced None c = refl
  info_reduced (Some amount) c = refl
