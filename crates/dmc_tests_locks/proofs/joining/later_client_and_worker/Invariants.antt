use Rattle.dmc_tests_locks.proofs.joining.later_client_and_worker.Given as goal

abbrev pub ghosts-joined_later : goal.ghosts-joined_later
ghosts-joined_later g a = record { name = a.blank.name }
