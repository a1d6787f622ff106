use Rattle.dmc_tests_locks.proofs.threads.two_threads.Given as goal

abbrev pub ghosts-two_at_once : goal.ghosts-two_at_once
ghosts-two_at_once g a = record { name = a.blank.name }
