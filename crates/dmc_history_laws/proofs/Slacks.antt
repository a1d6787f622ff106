-- The slack of a request that arrives, and what a cancelled one was charged, are not below 0.
use Rattle.std.proofs.Common.{◌≡◌, ℕ, Option, Some, None, Ok, refl, sym, subst}
use Rattle.std.specs.Prelude.{pos, ◌*ℤ◌, ◌≤ℤ◌, IfSome}
use Rattle.std.specs.Option.{unwrap_or, option_map_or}
use Rattle.std.specs.Result.{result_ok}
use Rattle.std.specs.Ordering.{ord_max}
use Rattle.std.specs.Cmp.{IsTotalOrder}
use Rattle.std.proofs.Math.IntN.{*ℤ_comm}
use Rattle.dmc_types.specs.Values.{Params, Rates}
use Rattle.dmc_types.specs.declared.config.Counting.{Counting}
use Rattle.dmc_types.specs.declared.config.Counting.TheVariants.{All, Others}
use Rattle.dmc_tag.specs.Cancel.{charge, charges_of}
use Rattle.dmc_tag.specs.Order.{AtMost, AreSpacings}
use Rattle.dmc_tag.specs.Outcome.{in_range}
use Rattle.dmc_tag.specs.Rules.{above, assigned, next_tag, next_reservation, slack_behind, slack_of}
use Rattle.dmc_tag.specs.Spacing.{spacings_of}
use Rattle.dmc_tag.specs.State.{PlainClient}
use Rattle.dmc_tag.specs.Tag.{Fraction, Tagging, IsExact}
use Rattle.dmc_tag.specs.declared.plain.Previous.{Previous}
use Rattle.dmc_tag.specs.declared.reply.Tags.{Tags}
use Rattle.dmc_tag.specs.declared.spacing.Spacings.{Spacings}
use Rattle.dmc_tag.proofs.Scaled.{at_least_zero, zero_scaled}
use Rattle.dmc_tag.proofs.TagOrder.{bound, given}
use Rattle.dmc_tag.proofs.Upto.{at_most_itself}
use Rattle.dmc_history_laws.proofs.Falling.{reservation, limit, share, IsSlack, slack_left}
use Rattle.dmc_history_laws.proofs.Scale.{NotBelow0, above_not_below, numer_from, numer_to}
use Rattle.dmc_history_laws.proofs.VirtualTime.{not_under_second}

module _ {T : Type 0} (ops : Tagging T) (fraction : T → Fraction) (is_value : Fraction → Type 0) (exact : IsExact ops fraction is_value) (order : IsTotalOrder ops.compare) where
  abbrev IsNot0 : T → Type 0
  IsNot0 a = NotBelow0 ops fraction is_value exact a

  none_is_not : IsNot0 (ops.of_moment 0)
  none_is_not = at_most_itself ops order (ops.of_moment 0)

  -- before the first request there is none
  pub no_slack : IsSlack ops (record { r = ops.of_moment 0; l = ops.of_moment 0; p = ops.of_moment 0 })
  no_slack reservation = none_is_not
  no_slack limit = none_is_not
  no_slack share = none_is_not

  -- ---- a request that arrives

  -- its tags are not below what they are compared with
  pub tag_from : (previous spacing t tag : T) (count : ℕ) → next_tag ops previous count spacing t ≡ Ok tag → AtMost ops t tag
  tag_from previous spacing t tag count e =
      let step = bound (in_range (ops.steps spacing count)) _ tag e in
      let sum = bound (in_range (ops.plus previous step.0)) _ tag step.2 in
      let tag_is : ord_max ops.compare sum.0 t ≡ tag = cc (sum.2) in
      subst (AtMost ops t) tag_is (not_under_second ops order sum.0 t)

  reservation_from : (previous t : T) (count : ℕ) (spacing tag : Option T) → next_reservation ops previous count spacing t ≡ Ok tag → IfSome tag (AtMost ops t)
  reservation_from previous t count spacing None e = tt
  reservation_from previous t count None (Some tag) e = cc
  reservation_from previous t count (Some spacing) (Some tag) e =
      let next = bound (next_tag ops previous count spacing t) _ (Some tag) e in
      let same : next.0 ≡ tag = cc (next.2) in
      subst (AtMost ops t) same (tag_from previous spacing t next.0 count next.1)

  pub arrives_with_slack : (hz : ℕ) (c : PlainClient T) (params : Params) (t floor : T) (tags : Tags T) → assigned ops hz c params t floor ≡ Ok tags → IsSlack ops c.previous.slack → IsSlack ops (slack_of ops c.previous tags t floor)
  arrives_with_slack hz c params t floor tags e left = by where
    previous : Previous T
    previous = c.previous

    by : IsSlack ops (slack_of ops c.previous tags t floor)
    by reservation =
        let sp = bound (in_range (result_ok (spacings_of ops hz c.info))) _ tags e in
        let r = bound (next_reservation ops c.previous.r params.rho sp.0.r t) _ tags sp.2 in
        let l = bound (next_tag ops c.previous.l params.delta sp.0.l t) _ tags r.2 in
        let p = bound (next_tag ops c.previous.p params.delta sp.0.p floor) _ tags l.2 in
        let r_is : r.0 ≡ tags.r = cc (p.2) in
        of_r tags.r (subst (λ o. IfSome o (AtMost ops t)) r_is (reservation_from c.previous.r t params.rho sp.0.r r.0 r.1))
      where
        of_r : (o : Option T) → IfSome o (AtMost ops t) → IsNot0 (option_map_or (λ r. slack_behind ops c.previous.cancelled c.previous.slack.r (above ops r t)) o c.previous.slack.r)
        of_r None h = left reservation
        of_r (Some r) h = slack_left ops fraction is_value exact order c.previous.cancelled c.previous.slack.r _ (left reservation) (above_not_below ops fraction is_value exact r t h)
    by limit =
        let sp = bound (in_range (result_ok (spacings_of ops hz c.info))) _ tags e in
        let r = bound (next_reservation ops c.previous.r params.rho sp.0.r t) _ tags sp.2 in
        let l = bound (next_tag ops c.previous.l params.delta sp.0.l t) _ tags r.2 in
        let p = bound (next_tag ops c.previous.p params.delta sp.0.p floor) _ tags l.2 in
        let l_is : l.0 ≡ tags.l = cc (p.2) in
        slack_left ops fraction is_value exact order c.previous.cancelled c.previous.slack.l _ (left limit) (above_not_below ops fraction is_value exact tags.l t (subst (AtMost ops t) l_is (tag_from c.previous.l sp.0.l t l.0 params.delta l.1)))
    by share =
        let sp = bound (in_range (result_ok (spacings_of ops hz c.info))) _ tags e in
        let r = bound (next_reservation ops c.previous.r params.rho sp.0.r t) _ tags sp.2 in
        let l = bound (next_tag ops c.previous.l params.delta sp.0.l t) _ tags r.2 in
        let p = bound (next_tag ops c.previous.p params.delta sp.0.p floor) _ tags l.2 in
        let p_is : p.0 ≡ tags.p = cc (p.2) in
        slack_left ops fraction is_value exact order c.previous.cancelled c.previous.slack.p _ (left share) (above_not_below ops fraction is_value exact tags.p floor (subst (AtMost ops floor) p_is (tag_from c.previous.p sp.0.p floor p.0 params.delta p.1)))

  -- ---- what a request was charged

  steps_not_below : (s d : T) (count : ℕ) → IsNot0 s → ops.steps s count ≡ Some d → IsNot0 d
  steps_not_below s d count h e =
      let same : (fraction d).numer *ℤ pos (fraction s).denom ≡ (pos count *ℤ (fraction s).numer) *ℤ pos (fraction d).denom = given ops fraction is_value exact (ops.steps s count) _ d (exact.steps s count) e in
      let times : pos 0 ≤ℤ (pos count *ℤ (fraction s).numer) = subst (λ z. pos 0 ≤ℤ z) (*ℤ_comm (fraction s).numer (pos count)) (zero_scaled (fraction s).numer count (numer_from ops fraction is_value exact s h)) in
      numer_to ops fraction is_value exact d (at_least_zero (fraction d).numer (fraction s).denom (exact.denom s) (subst (λ z. pos 0 ≤ℤ z) (sym same) (zero_scaled _ (fraction d).denom times)))

  charge_not_below : (spacing : Option T) (cost : ℕ) → IfSome spacing IsNot0 → IsNot0 (charge ops spacing cost)
  charge_not_below None cost h = none_is_not
  charge_not_below (Some s) cost h = by (ops.steps s cost) refl where
    by : (o : Option T) → ops.steps s cost ≡ o → IsNot0 (unwrap_or o (ops.of_moment 0))
    by None e = none_is_not
    by (Some d) e = steps_not_below s d cost h e

  pub charges_not_below : (counting : Counting) (info : Rates) (spacings : Option (Spacings T)) (cost : ℕ) → IfSome spacings (AreSpacings ops info) → IsSlack ops (charges_of ops counting spacings cost)
  charges_not_below All info spacings cost h = no_slack
  charges_not_below Others info None cost h = no_slack
  charges_not_below Others info (Some spacings) cost h = by where
    by : IsSlack ops (charges_of ops Others (Some spacings) cost)
    by reservation = charge_not_below spacings.r cost h.r
    by limit = charge_not_below (Some spacings.l) cost h.l
    by share = charge_not_below (Some spacings.p) cost h.p
