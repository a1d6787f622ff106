use Rattle.std.proofs.Common.{sym, ◌∙◌, arith}
use Rattle.std.proofs.lemmas.Bool.{eqb-true, eqb-false}
use Rattle.dmc_scene.proofs.CostLemmas.{too_few, too_many, read_more, read_none, read_to_end}
use Rattle.dmc_scene.proofs.costs.CostList.of.Goals as goal
use Rattle.dmc_scene.proofs.costs.CostList.of.Goals.{then-is_empty-via-then-is_empty, then-is_empty-via-else-is_empty+then-values-gt-MAX_COSTS}

pub returns-then-is_empty : goal.returns-then-is_empty
returns-then-is_empty c =
    let all = c.args.values.now in
    elim c.then-is_empty.branch [
      | then-is_empty-via-then-is_empty w ↦ sym (too_few all (eqb-true _ _ (sym w.if-is_empty.ensures)))
      | then-is_empty-via-else-is_empty+then-values-gt-MAX_COSTS w ↦ sym (too_many all w.if-values-gt-MAX_COSTS.true)
    ]

pub returns-in_err-units : goal.returns-in_err-units
returns-in_err-units c =
    c.from_residual.ensures
    ∙ sym (read_none _ _ _ _ c.loop-index.invariant c.loop-index-test.true c.if-values-gt-MAX_COSTS.false c.index-values-index.is
    (sym c.in_err-units.ensures.value))

pub loop-index-preserved : goal.loop-index-preserved
loop-index-preserved c =
    read_more _ _ _ _ _ c.loop-index.invariant c.loop-index-test.true c.if-values-gt-MAX_COSTS.false c.index-values-index.is
    (sym c.in_ok-units.ensures.value) c.in_ok-units.ensures.some c.in_ok-units.ensures.limit

pub returns : goal.returns
returns c =
    let some = eqb-false _ _ (sym c.if-is_empty.ensures) in
    sym (read_to_end _ _ _ c.loop-index.invariant (omega arith) (omega (arith, some)) c.if-values-gt-MAX_COSTS.false)
