use Rattle.dmc_tests_shared.proofs.books.one_circle_over_heaps.Given as goal

abbrev pub ghosts-circle_over_heaps : goal.ghosts-circle_over_heaps
ghosts-circle_over_heaps g a = record { name = a.blank.name }
