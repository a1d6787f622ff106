use Rattle.dmc_driver.proofs.run.run_limited.Given as goal

abbrev pub ghosts-run_in-S-Setup : goal.ghosts-run_in-S-Setup
ghosts-run_in-S-Setup g a = record { name = a.blank.name }

abbrev pub ghosts-run_in-S-Origin : goal.ghosts-run_in-S-Origin
ghosts-run_in-S-Origin g a = record { scene = a.scene.now; limits = a.limits }
