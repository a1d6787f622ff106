use Rattle.dmc_tests_shared.proofs.tracker_books.two_threads_at_a_lock.Given as goal

abbrev pub ghosts-shared : goal.ghosts-shared
ghosts-shared g a = record { name = a.blank.name }
