use Rattle.dmc_tests_base.proofs.ledgers.till_in_a_thread.Given as goal

abbrev pub ghosts-moved : goal.ghosts-moved
ghosts-moved g a = record { name = a.blank.name }
