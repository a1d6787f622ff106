use Rattle.dmc_tests_locks.proofs.both_indexes.locks_over_both_indexes.Given as goal

abbrev pub ghosts-both : goal.ghosts-both
ghosts-both g a = record { name = a.blank.name }
