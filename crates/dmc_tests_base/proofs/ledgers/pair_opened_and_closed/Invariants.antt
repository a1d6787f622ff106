use Rattle.dmc_tests_base.proofs.ledgers.pair_opened_and_closed.Given as goal

abbrev pub ghosts-pair : goal.ghosts-pair
ghosts-pair g a = record { name = a.blank.name }
