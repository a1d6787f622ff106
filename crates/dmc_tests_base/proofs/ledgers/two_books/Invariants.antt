use Rattle.dmc_tests_base.proofs.ledgers.two_books.Given as goal

abbrev pub ghosts-numbers : goal.ghosts-numbers
ghosts-numbers g a = record { name = a.blank.name }
