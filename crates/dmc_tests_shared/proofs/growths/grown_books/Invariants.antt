use Rattle.dmc_tests_shared.proofs.growths.grown_books.Given as goal

abbrev pub ghosts-grown : goal.ghosts-grown
ghosts-grown g a = record { name = a.blank.name }
