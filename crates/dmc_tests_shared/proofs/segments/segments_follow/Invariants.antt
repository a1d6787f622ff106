use Rattle.dmc_tests_shared.proofs.segments.segments_follow.Given as goal

abbrev pub ghosts-rotate_twice : goal.ghosts-rotate_twice
ghosts-rotate_twice g a = record { name = a.blank.name }
