use Rattle.dmc_tests_locks.proofs.waiting.all_who_wait_are_woken.Given as goal

abbrev pub ghosts-woken : goal.ghosts-woken
ghosts-woken g a = record { name = a.blank.name }
