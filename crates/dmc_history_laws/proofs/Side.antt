-- The two bounds as one: what each reads of the tags, of the rates and of what was sent, and the level of what was sent and taken off.
use Rattle.std.proofs.Common.{◌≡◌, ℕ, ◌+◌, ◌*◌, Option, Some, Ok, sym, ap, ◌∙◌, subst, arith}
use Rattle.std.specs.Prelude.{ℤ, pos, ◌+ℤ◌, ◌-ℤ◌}
use Rattle.std.specs.Option.{unwrap_or}
use Rattle.std.specs.Result.{result_ok}
use Rattle.std.proofs.lemmas.Int.{ints}
use Rattle.dmc_types.specs.Values.{Params, Rates}
use Rattle.dmc_types.specs.declared.config.PhaseType.{PhaseType}
use Rattle.dmc_types.specs.declared.config.PhaseType.TheVariants.{Reservation as Reserved, Priority}
use Rattle.dmc_types.specs.declared.refusal.Field.TheVariants.{Reservation, Weight, Limit}
use Rattle.dmc_tag.specs.Tag.{Fraction, Tagging}
use Rattle.dmc_tag.specs.Outcome.{in_range}
use Rattle.dmc_tag.specs.Spacing.{spacing_of, optional_spacing, spacings_of}
use Rattle.dmc_tag.specs.Rules.{next_tag, next_reservation, previous_after, assigned}
use Rattle.dmc_tag.specs.declared.plain.Previous.{Previous}
use Rattle.dmc_tag.specs.declared.plain.Slack.{Slack}
use Rattle.dmc_tag.specs.State.{PlainClient}
use Rattle.dmc_tag.specs.declared.reply.Tags.{Tags}
use Rattle.dmc_tag.proofs.TagOrder.{bound, from_option, from_range}
use Rattle.dmc_history_laws.proofs.Basics.{from_ok}

pub data Side : Type 0 where
  limits : Side
  reservations : Side

-- the tag that is bounded
abbrev pub tag_in : {T : Type 0} → Side → Tags T → Option T
tag_in limits tags = Some tags.l
tag_in reservations tags = tags.r

abbrev pub previous_in : {T : Type 0} → Side → Previous T → T
previous_in limits previous = previous.l
previous_in reservations previous = previous.r

abbrev pub rate_in : Side → Rates → Option ℕ
rate_in limits info = info.limit
rate_in reservations info = info.reservation

-- how many spacings an add steps
abbrev pub count_in : Side → Params → ℕ
count_in limits params = params.delta
count_in reservations params = params.rho

-- how many spacings Priority grants of this cost take off
abbrev pub taken_in : Side → ℕ → ℕ
taken_in limits cost = 0
taken_in reservations cost = cost

-- the phase of the grants that are bounded
abbrev pub phase_of : Side → PhaseType
phase_of limits = Priority
phase_of reservations = Reserved

-- the new tag becomes the previous one
pub previous_of : {T : Type 0} (side : Side) (tags : Tags T) (slack : Slack T) (previous : Previous T) (tag : T) → tag_in side tags ≡ Some tag → previous_in side (previous_after tags slack previous) ≡ tag
previous_of limits tags slack previous tag e = cc
previous_of reservations tags slack previous tag e = ap (λ o. unwrap_or o previous.r) e

-- ---- an assignment steps the tag by the spacing of the rate

pub record Steps {T : Type 0} (ops : Tagging T) (side : Side) (hz q : ℕ) (previous : Previous T) (params : Params) (t : T) (tags : Tags T) : Type 0 where
  pub spacing : T
  pub spaced : ops.spacing hz q ≡ Some spacing
  pub tag : T
  pub tag_is : tag_in side tags ≡ Some tag
  pub next : next_tag ops (previous_in side previous) (count_in side params) spacing t ≡ Ok tag

module _ {T : Type 0} (ops : Tagging T) (hz q : ℕ) (c : PlainClient T) (params : Params) (t floor : T) (tags : Tags T) (e : assigned ops hz c params t floor ≡ Ok tags) where
  pub steps_by : (side : Side) → rate_in side c.info ≡ Some q → Steps ops side hz q c.previous params t tags
  steps_by side rated =
      let sp = bound (in_range (result_ok (spacings_of ops hz c.info))) _ tags e in
      let spacings = from_ok _ _ (from_range _ _ sp.1) in
      let r = bound (next_reservation ops c.previous.r params.rho sp.0.r t) _ tags sp.2 in
      let l = bound (next_tag ops c.previous.l params.delta sp.0.l t) _ tags r.2 in
      let p = bound (next_tag ops c.previous.p params.delta sp.0.p floor) _ tags l.2 in
      let rs = bound (optional_spacing ops hz Reservation c.info.reservation) _ sp.0 spacings in
      let ps = bound (spacing_of ops hz Weight c.info.weight) _ sp.0 rs.2 in
      let ls = bound (optional_spacing ops hz Limit c.info.limit) _ sp.0 ps.2 in
      let r_is : r.0 ≡ tags.r = cc (p.2) in
      let l_is : l.0 ≡ tags.l = cc (p.2) in
      let rs_is : rs.0 ≡ sp.0.r = cc (ls.2) in
      let ls_is : unwrap_or ls.0 (ops.of_moment 0) ≡ sp.0.l = cc (ls.2) in
      at side rated r.0 l.0 sp.0.r sp.0.l rs.0 ls.0 r_is l_is rs_is ls_is rs.1 ls.1 r.1 l.1
    where
      at : (side : Side) → rate_in side c.info ≡ Some q → (r : Option T) (l : T) (rs : Option T) (ls : T) (given_r given_l : Option T) → r ≡ tags.r → l ≡ tags.l → given_r ≡ rs → unwrap_or given_l (ops.of_moment 0) ≡ ls → optional_spacing ops hz Reservation c.info.reservation ≡ Ok given_r → optional_spacing ops hz Limit c.info.limit ≡ Ok given_l → next_reservation ops c.previous.r params.rho rs t ≡ Ok r → next_tag ops c.previous.l params.delta ls t ≡ Ok l → Steps ops side hz q c.previous params t tags
      at limits rated r l rs ls given_r given_l r_is l_is rs_is ls_is er el nr nl =
          let found = bound (spacing_of ops hz Limit q) _ given_l (subst (λ o. optional_spacing ops hz Limit o ≡ Ok given_l) rated el) in
          let is : Some found.0 ≡ given_l = cc (found.2) in
          let spacing_is : found.0 ≡ ls = ap (λ o. unwrap_or o (ops.of_moment 0)) is ∙ ls_is in
          record { spacing = ls; spaced = from_option _ _ _ found.1 ∙ ap Some spacing_is; tag = l; tag_is = ap Some (sym l_is); next = nl }
      at reservations rated r l rs ls given_r given_l r_is l_is rs_is ls_is er el nr nl =
          let found = bound (spacing_of ops hz Reservation q) _ given_r (subst (λ o. optional_spacing ops hz Reservation o ≡ Ok given_r) rated er) in
          let is : rs ≡ Some found.0 = sym (cc (found.2) ∙ rs_is) in
          let next = bound (next_tag ops c.previous.r params.rho found.0 t) (λ a. Ok (Some a)) r (subst (λ o. next_reservation ops c.previous.r params.rho o t ≡ Ok r) is nr) in
          let tag_is : tags.r ≡ Some next.0 = sym (cc (next.2) ∙ r_is) in
          record { spacing = found.0; spaced = from_option _ _ _ found.1; tag = next.0; tag_is = tag_is; next = next.1 }

-- ---- the level: hz for each count that was sent since, less hz for each spacing that was taken off

module _ {T : Type 0} (fraction : T → Fraction) (hz q from : ℕ) where
  abbrev pub level : ℕ → ℕ → ℤ
  level taken sent = pos (q * from + hz * sent) -ℤ pos (hz * taken)

  pub level_sent : (taken sent more : ℕ) → level taken sent +ℤ pos (hz * more) ≡ level taken (sent + more)
  level_sent taken sent more =
      let e : q * from + hz * (sent + more) ≡ q * from + hz * sent + hz * more = omega arith in
      up (q * from + hz * sent) (hz * taken) (hz * more) ∙ ap (λ n. pos n -ℤ pos (hz * taken)) (sym e) where
        up : (a b c : ℕ) → (pos a -ℤ pos b) +ℤ pos c ≡ pos (a + c) -ℤ pos b
        up a b c = omega (arith, ints)

  pub level_taken : (taken sent cost : ℕ) → level taken sent -ℤ pos (hz * cost) ≡ level (taken + cost) sent
  level_taken taken sent cost =
      let e : hz * (taken + cost) ≡ hz * taken + hz * cost = omega arith in
      down (q * from + hz * sent) (hz * taken) (hz * cost) ∙ ap (λ n. pos (q * from + hz * sent) -ℤ pos n) (sym e) where
        down : (a b c : ℕ) → (pos a -ℤ pos b) -ℤ pos c ≡ pos a -ℤ pos (b + c)
        down a b c = omega (arith, ints)

  pub level_opens : level 0 0 ≡ pos (q * from)
  level_opens =
      let sent : q * from + hz * 0 ≡ q * from = omega arith in
      let taken : hz * 0 ≡ 0 = omega arith in
      ap (λ n. pos n -ℤ pos (hz * 0)) sent ∙ none (q * from) (hz * 0) taken where
        none : (a b : ℕ) → b ≡ 0 → pos a -ℤ pos b ≡ pos a
        none a b e = omega (arith, ints)
