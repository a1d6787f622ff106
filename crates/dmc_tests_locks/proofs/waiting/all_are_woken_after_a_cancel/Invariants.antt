use Rattle.dmc_tests_locks.proofs.waiting.all_are_woken_after_a_cancel.Given as goal

abbrev pub ghosts-woken : goal.ghosts-woken
ghosts-woken g a = record { name = a.blank.name }
