-- The sizes of a scene, read one after another.
use Rattle.std.proofs.Common.{refl, sym, ◌∙◌}
use Rattle.dmc_lemmas.proofs.Options.{err_is}
use Rattle.dmc_tag.proofs.Outcomes.{ends, goes_on}
use Rattle.dmc_scene.proofs.scene.read_sizes.Goals as goal

pub returns-in_err-servers-clause-value : goal.returns-in_err-servers-clause-value
returns-in_err-servers-clause-value c =
    err_is _ _ c.from_residual.ensures.1 ∙ ends _ (sym c.in_err-servers.ensures.value)

pub returns-in_err-workers-clause-value : goal.returns-in_err-workers-clause-value
returns-in_err-workers-clause-value c =
    goes_on _ (sym c.in_ok-servers.ensures.value)
    (err_is _ _ c.from_residual-in_err-workers.ensures.1 ∙ ends _ (sym c.in_err-workers.ensures.value))

pub returns-in_err-step-clause-value : goal.returns-in_err-step-clause-value
returns-in_err-step-clause-value c =
    goes_on _ (sym c.in_ok-servers.ensures.value)
    (goes_on _ (sym c.in_ok-workers.ensures.value)
    (err_is _ _ c.from_residual-in_err-step.ensures.1 ∙ ends _ (sym c.in_err-step.ensures.value)))

pub returns-in_err-seed-clause-value : goal.returns-in_err-seed-clause-value
returns-in_err-seed-clause-value c =
    goes_on _ (sym c.in_ok-servers.ensures.value)
    (goes_on _ (sym c.in_ok-workers.ensures.value)
    (goes_on _ (sym c.in_ok-step.ensures.value)
    (err_is _ _ c.from_residual-in_err-seed.ensures.1 ∙ ends _ (sym c.in_err-seed.ensures.value))))

pub returns-in_err-max_pulls-clause-value : goal.returns-in_err-max_pulls-clause-value
returns-in_err-max_pulls-clause-value c =
    goes_on _ (sym c.in_ok-servers.ensures.value)
    (goes_on _ (sym c.in_ok-workers.ensures.value)
    (goes_on _ (sym c.in_ok-step.ensures.value)
    (goes_on _ (sym c.in_ok-seed.ensures.value)
    (err_is _ _ c.from_residual-in_err-max_pulls.ensures.1 ∙ ends _ (sym c.in_err-max_pulls.ensures.value)))))

pub returns-clause-value : goal.returns-clause-value
returns-clause-value c =
    goes_on _ (sym c.in_ok-servers.ensures.value)
    (goes_on _ (sym c.in_ok-workers.ensures.value)
    (goes_on _ (sym c.in_ok-step.ensures.value)
    (goes_on _ (sym c.in_ok-seed.ensures.value)
    (goes_on _ (sym c.in_ok-max_pulls.ensures.value) refl))))
