use Rattle.std.proofs.Common.{◌<◌, Option, None, get_or, length, refl, sym, ◌∙◌, arith}
use Rattle.std.proofs.lemmas.Bool.{false≢true}
use Rattle.std.proofs.lemmas.Option.{slice_get-get_or, slice_get_within}
use Rattle.dmc_settle.specs.declared.report.StopCause.{StopCause}
use Rattle.dmc_driver.specs.Stops.{IsEndAt}
use Rattle.dmc_driver.proofs.WalkLemmas.{item_more}
use Rattle.dmc_driver.proofs.stops.are_ends.Goals as goal

pub returns-then-not-is_end_at : goal.returns-then-not-is_end_at
returns-then-not-is_end_at g c =
    let ends = c.args.ends.now in
    let k = c.loop-k.k in
    let within : k < length ends = omega arith in (
      (λ e. cc),
      (λ all. absurd (false≢true (sym c.if-not-is_end_at.true ∙ c.is_end_at.ensures.1 (all k (get_or ends k None) (slice_get-get_or ends k None within))))),
    )

pub loop-k-preserved : goal.loop-k-preserved
loop-k-preserved g c =
    let ends = c.args.ends.now in
    let k = c.loop-k.k in
    let within : k < length ends = omega arith in
    item_more (λ j (end : Option StopCause). IsEndAt c.args.scene.now c.args.server c.args.history.now.events j end) ends k (get_or ends k None)
    (slice_get-get_or ends k None within) (c.is_end_at.ensures.0 c.if-not-is_end_at.false) c.loop-k.invariant

pub returns : goal.returns
returns g c = (
  (λ e k end at. c.loop-k.invariant k end (omega (arith, slice_get_within c.args.ends.now k end at)) at),
  (λ all. refl),
)
