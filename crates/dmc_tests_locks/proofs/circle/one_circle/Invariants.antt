use Rattle.dmc_tests_locks.proofs.circle.one_circle.Given as goal

abbrev pub ghosts-circle : goal.ghosts-circle
ghosts-circle g a = record { name = a.blank.name }
