use Rattle.dmc_bench.proofs.load.run_locked.Given as goal

abbrev pub ghosts-serve_locked : goal.ghosts-serve_locked
ghosts-serve_locked g a = record { name = a.blank.name }
