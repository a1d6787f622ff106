use Rattle.dmc_tests_shared.proofs.tracker_books.one_circle.Given as goal

abbrev pub ghosts-circles : goal.ghosts-circles
ghosts-circles g a = record { name = a.blank.name }
