use Rattle.dmc_tests_shared.proofs.books.one_circle.Given as goal

abbrev pub ghosts-circle : goal.ghosts-circle
ghosts-circle g a = record { name = a.blank.name }
