use Rattle.dmc_tests_locks.proofs.joining.come_and_go_amid_pulls.Given as goal

abbrev pub ghosts-came : goal.ghosts-came
ghosts-came g a = record { name = a.blank.name }
