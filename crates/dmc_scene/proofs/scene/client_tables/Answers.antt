-- The tables at the key of the clients, read one after another.
use Rattle.std.proofs.Common.{ap, sym, ◌∙◌, rules}
use Rattle.std.specs.Result.{result_map_both}
use Rattle.dmc_lemmas.proofs.Options.{err_is}
use Rattle.dmc_tag.proofs.Outcomes.{ends, goes_on}
use Rattle.dmc_scene.proofs.scene.client_tables.Goals as goal

pub returns-in_err-required-clause-value : goal.returns-in_err-required-clause-value
returns-in_err-required-clause-value c =
    ap (result_map_both _ _) (err_is _ _ c.from_residual.ensures.1) ∙ ends _ (sym c.in_err-required.ensures)

pub returns-in_err-values-clause-value : goal.returns-in_err-values-clause-value
returns-in_err-values-clause-value c =
    goes_on _ (sym c.in_ok-required.ensures)
    (ap (result_map_both _ _) (err_is _ _ c.from_residual-in_err-values.ensures.1) ∙ ends _ (sym c.in_err-values.ensures.value))

pub returns-then-is_empty-clause-value : goal.returns-then-is_empty-clause-value
returns-then-is_empty-clause-value c =
    goes_on _ (sym c.in_ok-required.ensures)
    (goes_on _ (sym c.in_ok-values.ensures.value) (search (rules, c.in_ok-values.ensures.len, c.then-is_empty.either)))

pub returns-clause-value : goal.returns-clause-value
returns-clause-value c =
    goes_on _ (sym c.in_ok-required.ensures)
    (goes_on _ (sym c.in_ok-values.ensures.value) (search (rules, c.in_ok-values.ensures.len)))
