use Rattle.std.proofs.Common.{◌≡◌, ℕ, ◌^◌, ◌<◌, ◌≤◌, ℤ, pos, ◌*ℤ◌, FitsSigned, to_z, of_z, ap, ◌∙◌, arith}
use Rattle.std.specs.Prelude.{unsigned_abs}
use Rattle.std.specs.Int.{w128}
use Rattle.std.proofs.lemmas.Int.{to_z-of_z, to_z_pos, fits_signed_mul}
use Rattle.dmc_tick.specs.Tick.{greatest, tick}
use Rattle.dmc_tick.proofs.tick.TickTagTag.steps.Goals as goal

-- a tag's ticks, as many times as a `u32` says
module _ (k : ℕ) (z : ℤ) (small : k < 2 ^ 32) (bound : unsigned_abs z ≤ greatest) (fits : FitsSigned w128 z) where
  factors : to_z w128 k *ℤ to_z w128 (of_z w128 z) ≡ pos k *ℤ z
  factors = rw (to_z_pos w128 k (omega arith), to_z-of_z w128 z fits)

  product_fits : FitsSigned w128 (to_z w128 k *ℤ to_z w128 (of_z w128 z))
  product_fits = rw factors (fits_signed_mul w128 (pos k) z (2 ^ 32) greatest (omega arith) bound (omega arith))

  product : to_z w128 (of_z w128 (to_z w128 k *ℤ to_z w128 (of_z w128 z))) ≡ pos k *ℤ z
  product = to_z-of_z w128 _ product_fits ∙ factors

pub overflow_mul-k : goal.overflow_mul-k
overflow_mul-k c = product_fits c.args.k c.ticks.result c.ranges.k.fits c.ticks.ensures.bound (record { sfits = c.ticks.type_inv })

pub returns : goal.returns
returns c =
    let value = product c.args.k c.ticks.result c.ranges.k.fits c.ticks.ensures.bound (record { sfits = c.ticks.type_inv }) in
    c.new.ensures ∙ ap tick (value ∙ ap (λ z. pos c.args.k *ℤ z) c.ticks.ensures.value)
