-- What a caller's proof may cite: a scene meets what `ClusterCore::new` requires of the tags that it names.
use Rattle.std.proofs.Common.{◌≡◌, ℕ, zero, suc, get_or, ◌<◌, ◌≤◌, ◌/◌, ◌%◌, ◌==◌, true, false, true≢false, Option, Some, None, ℤ, pos, refl, sym, ap, ◌∙◌, arith, Ok}
use Rattle.std.specs.Prelude.{All, IsOk, IfSome, nat_le, unsigned_abs}
use Rattle.std.proofs.Math.Nat.{mod-zero, div-le_self}
use Rattle.std.proofs.lemmas.Bool.{and_parts, eqb-true, le-leb, leb-true, false_from_ne_true}
use Rattle.dmc_types.specs.Values.{Rates}
use Rattle.dmc_types.specs.declared.config.TagKind.{TagKind}
use Rattle.dmc_types.specs.declared.config.TagKind.TheVariants.{Tick, Ratio}
use Rattle.dmc_types.specs.declared.refusal.Field.{Field}
use Rattle.dmc_types.specs.declared.refusal.Field.TheVariants.{Reservation, Limit}
use Rattle.dmc_tag.specs.Tag.{Tagging}
use Rattle.dmc_tag.specs.Spacing.{spacings_of, optional_spacing}
use Rattle.dmc_tick.specs.Tick.{tick_ops, tick_spacing, greatest}
use Rattle.dmc_ratio.specs.Gcd.{gcd}
use Rattle.dmc_ratio.specs.Lowest.{over, unsigned_abs-over}
use Rattle.dmc_ratio.specs.Ratio as r
use Rattle.dmc_scene.specs.SceneValue.{SceneValue, AreSpaced, HasSpacing}
use Rattle.dmc_core.specs.Opening.{HaveSpacings}

-- in ticks a rate that divides hz has a spacing
tick_spaced : (hz rate : ℕ) → 0 < hz → hz ≤ 1000000000 → HasSpacing Tick hz rate → (z : ℤ) × (tick_spacing hz rate ≡ Some z)
tick_spaced hz rate some limit divides =
    let whole : hz % rate ≡ 0 = eqb-true _ _ divides in
    let rated : (rate == 0) ≡ false = false_from_ne_true (rate == 0) (λ e.
    let none = ap (λ (n : ℕ). hz % n) (eqb-true _ _ e) ∙ mod-zero hz in
    absurd (omega arith)) in
    let least : hz / rate ≤ hz = div-le_self hz rate in
    let small : nat_le (hz / rate) greatest ≡ true = le-leb _ _ (omega arith) in
    (pos (hz / rate), rw (rated, divides, small) refl)

-- in ratios a rate of 1 to 2^32 has one
ratio_spaced : (hz rate : ℕ) → hz ≤ 1000000000 → HasSpacing Ratio hz rate → (z : r.Ratio) × (r.ratio_ops.spacing hz rate ≡ Some z)
ratio_spaced hz zero limit h = absurd (true≢false (sym h))
ratio_spaced hz (suc d) limit h =
    let g = gcd hz (suc d) in
    let rate : suc d ≤ 4294967296 = leb-true _ _ (and_parts (nat_le 1 (suc d)) (nat_le (suc d) 4294967296) h).1 in
    let numer : unsigned_abs (over (pos hz) g) ≤ hz = rw (unsigned_abs-over (pos hz) g) (div-le_self hz g) in
    let denom : suc d / g ≤ suc d = div-le_self (suc d) g in
    let first : nat_le (unsigned_abs (over (pos hz) g)) r.max_numer ≡ true = le-leb _ _ (omega arith) in
    let second : nat_le (suc d / g) r.max_denom ≡ true = le-leb _ _ (omega arith) in
    (r.lowest_terms (pos hz) d, rw (first, second) refl)

module _ {T : Type 0} (ops : Tagging T) (tags : TagKind) (hz : ℕ) (spaced : (rate : ℕ) → HasSpacing tags hz rate → (z : T) × (ops.spacing hz rate ≡ Some z)) where
  optional_spaced : (field : Field) (rate : Option ℕ) → IfSome rate (HasSpacing tags hz) → (o : Option T) × (optional_spacing ops hz field rate ≡ Ok o)
  optional_spaced field None h = (None, refl)
  optional_spaced field (Some rate) h = let z = spaced rate h in (Some z.0, rw z.1 refl)

  rates_spaced : (info : Rates) → AreSpaced tags hz info → IsOk (spacings_of ops hz info)
  rates_spaced info h =
      let r = optional_spaced Reservation info.reservation h.reserved in
      let p = spaced info.weight h.weighed in
      let l = optional_spaced Limit info.limit h.limited in
      rw (r.1, p.1, l.1) refl

module _ (scene : SceneValue) (some : 0 < scene.config.hz) (limit : scene.config.hz ≤ 1000000000) where
  -- each rate of a scene in ticks has a spacing in ticks
  pub tick_scene_spaced : All (λ c. AreSpaced Tick scene.config.hz c.info) scene.clients → HaveSpacings tick_ops scene
  tick_scene_spaced spaced_are = λ k d within.
      rates_spaced tick_ops Tick scene.config.hz (λ rate h. tick_spaced scene.config.hz rate some limit h) (get_or scene.clients k d).info (spaced_are k d within)

  -- and each of a scene in ratios has one in ratios
  pub ratio_scene_spaced : All (λ c. AreSpaced Ratio scene.config.hz c.info) scene.clients → HaveSpacings r.ratio_ops scene
  ratio_scene_spaced spaced_are = λ k d within.
      rates_spaced r.ratio_ops Ratio scene.config.hz (λ rate h. ratio_spaced scene.config.hz rate limit h) (get_or scene.clients k d).info (spaced_are k d within)
