use Rattle.dmc_tests_locks.proofs.threads.close_amid_submits.Given as goal

abbrev pub ghosts-closed_at_once : goal.ghosts-closed_at_once
ghosts-closed_at_once g a = record { name = a.blank.name }
