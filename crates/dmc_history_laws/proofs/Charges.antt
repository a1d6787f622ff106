-- What a cancelled request was charged is at most its cost times the spacing of the rate.
use Rattle.std.proofs.Common.{◌≡◌, ℕ, ◌*◌, Option, Some, None, Ok, refl, sym, ap, ◌∙◌, subst}
use Rattle.std.specs.Option.{unwrap_or}
use Rattle.std.specs.Result.{result_ok}
use Rattle.dmc_types.specs.Values.{Rates}
use Rattle.dmc_types.specs.declared.config.Counting.{Counting}
use Rattle.dmc_types.specs.declared.config.Counting.TheVariants.{All, Others}
use Rattle.dmc_types.specs.declared.refusal.Field.TheVariants.{Reservation, Weight, Limit}
use Rattle.dmc_tag.specs.Cancel.{charge, charges_of, charged_to}
use Rattle.dmc_tag.specs.Spacing.{spacing_of, optional_spacing, spacings_of}
use Rattle.dmc_tag.specs.State.{PlainClient}
use Rattle.dmc_tag.specs.Tag.{Fraction, Tagging, IsExact}
use Rattle.dmc_tag.specs.declared.spacing.Spacings.{Spacings}
use Rattle.dmc_tag.proofs.TagOrder.{bound, from_option}
use Rattle.dmc_history_laws.proofs.Basics.{from_ok}
use Rattle.dmc_history_laws.proofs.Behind.{kind_of}
use Rattle.dmc_history_laws.proofs.Falling.{slack_in}
use Rattle.dmc_history_laws.proofs.Past.{IsWorth, worth_none, worth_spacings}
use Rattle.dmc_history_laws.proofs.Side.{Side, limits, reservations, rate_in}

-- the costs that a cancel gives back
abbrev pub counted_in : Counting → ℕ → ℕ
counted_in All cost = 0
counted_in Others cost = cost

module _ {T : Type 0} (ops : Tagging T) (fraction : T → Fraction) (is_value : Fraction → Type 0) (exact : IsExact ops fraction is_value) (q hz : ℕ) where
  abbrev Worth : T → ℕ → Type 0
  Worth a n = IsWorth ops fraction is_value exact q a n

  -- the spacing of a side
  abbrev spacing_at : Side → Spacings T → Option T
  spacing_at limits spacings = Some spacings.l
  spacing_at reservations spacings = spacings.r

  spacing_in : (side : Side) (info : Rates) (spacings : Spacings T) → spacings_of ops hz info ≡ Ok spacings → rate_in side info ≡ Some q → (s : T) × (spacing_at side spacings ≡ Some s) × (ops.spacing hz q ≡ Some s)
  spacing_in side info spacings e rated =
      let rs = bound (optional_spacing ops hz Reservation info.reservation) _ spacings e in
      let ps = bound (spacing_of ops hz Weight info.weight) _ spacings rs.2 in
      let ls = bound (optional_spacing ops hz Limit info.limit) _ spacings ps.2 in
      let rs_is : rs.0 ≡ spacings.r = cc (ls.2) in
      let ls_is : unwrap_or ls.0 (ops.of_moment 0) ≡ spacings.l = cc (ls.2) in
      at side rated rs.0 ls.0 rs_is ls_is rs.1 ls.1
    where
      at : (side : Side) → rate_in side info ≡ Some q → (r l : Option T) → r ≡ spacings.r → unwrap_or l (ops.of_moment 0) ≡ spacings.l → optional_spacing ops hz Reservation info.reservation ≡ Ok r → optional_spacing ops hz Limit info.limit ≡ Ok l → (s : T) × (spacing_at side spacings ≡ Some s) × (ops.spacing hz q ≡ Some s)
      at limits rated r l r_is l_is er el =
          let found = bound (spacing_of ops hz Limit q) _ l (subst (λ o. optional_spacing ops hz Limit o ≡ Ok l) rated el) in
          let is : Some found.0 ≡ l = cc (found.2) in
          let same : found.0 ≡ spacings.l = ap (λ o. unwrap_or o (ops.of_moment 0)) is ∙ l_is in
          (found.0, ap Some (sym same), from_option _ _ _ found.1)
      at reservations rated r l r_is l_is er el =
          let found = bound (spacing_of ops hz Reservation q) _ r (subst (λ o. optional_spacing ops hz Reservation o ≡ Ok r) rated er) in
          let is : Some found.0 ≡ r = cc (found.2) in
          (found.0, sym (is ∙ r_is), from_option _ _ _ found.1)

  charge_worth : (spacing : Option T) (s : T) (cost : ℕ) → spacing ≡ Some s → ops.spacing hz q ≡ Some s → Worth (charge ops spacing cost) (hz * cost)
  charge_worth spacing s cost is spaced = subst (λ o. Worth (charge ops o cost) (hz * cost)) (sym is) (by (ops.steps s cost) refl) where
    by : (o : Option T) → ops.steps s cost ≡ o → Worth (unwrap_or o (ops.of_moment 0)) (hz * cost)
    by None e = worth_none ops fraction is_value exact q (hz * cost)
    by (Some amount) e = worth_spacings ops fraction is_value exact q amount hz cost (record { spacing = s; spaced = spaced; steps = e })

  nothing_paid : (side : Side) (n : ℕ) → Worth (slack_in (kind_of side) (record { r = ops.of_moment 0; l = ops.of_moment 0; p = ops.of_moment 0 })) n
  nothing_paid limits n = worth_none ops fraction is_value exact q n
  nothing_paid reservations n = worth_none ops fraction is_value exact q n

  pub charged_worth : (side : Side) (counting : Counting) (c : PlainClient T) (cost : ℕ) → rate_in side c.info ≡ Some q → Worth (slack_in (kind_of side) (charged_to ops hz counting c cost)) (hz * counted_in counting cost)
  charged_worth side All c cost rated = nothing_paid side (hz * 0)
  charged_worth side Others c cost rated = by (result_ok (spacings_of ops hz c.info)) refl where
    by : (o : Option (Spacings T)) → result_ok (spacings_of ops hz c.info) ≡ o → Worth (slack_in (kind_of side) (charges_of ops Others o cost)) (hz * cost)
    by None e = nothing_paid side (hz * cost)
    by (Some spacings) e =
        let found = spacing_in side c.info spacings (from_ok _ _ e) rated in
        at side found.0 found.1 found.2
      where
        at : (side : Side) (s : T) → spacing_at side spacings ≡ Some s → ops.spacing hz q ≡ Some s → Worth (slack_in (kind_of side) (charges_of ops Others (Some spacings) cost)) (hz * cost)
        at limits s is spaced = charge_worth (Some spacings.l) s cost is spaced
        at reservations s is spaced = charge_worth spacings.r s cost is spaced

  -- the same by the weight
  pub weighed_worth : (counting : Counting) (c : PlainClient T) (cost : ℕ) → c.info.weight ≡ q → Worth (charged_to ops hz counting c cost).p (hz * counted_in counting cost)
  weighed_worth All c cost rated = worth_none ops fraction is_value exact q (hz * 0)
  weighed_worth Others c cost rated = by (result_ok (spacings_of ops hz c.info)) refl where
    by : (o : Option (Spacings T)) → result_ok (spacings_of ops hz c.info) ≡ o → Worth (charges_of ops Others o cost).p (hz * cost)
    by None e = worth_none ops fraction is_value exact q (hz * cost)
    by (Some spacings) e =
        let rs = bound (optional_spacing ops hz Reservation c.info.reservation) _ spacings (from_ok _ _ e) in
        let ps = bound (spacing_of ops hz Weight c.info.weight) _ spacings rs.2 in
        let ls = bound (optional_spacing ops hz Limit c.info.limit) _ spacings ps.2 in
        let p_is : ps.0 ≡ spacings.p = cc (ls.2) in
        charge_worth (Some spacings.p) ps.0 cost (ap Some (sym p_is)) (ap (ops.spacing hz) (sym rated) ∙ from_option _ _ _ ps.1)
