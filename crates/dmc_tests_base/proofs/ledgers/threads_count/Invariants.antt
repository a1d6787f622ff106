use Rattle.dmc_tests_base.proofs.ledgers.threads_count.Given as goal

abbrev pub ghosts-counted : goal.ghosts-counted
ghosts-counted g a = record { name = a.blank.name }
