use Rattle.dmc_tests_shared.proofs.tracker_segments.tracker_segments_follow.Given as goal

abbrev pub ghosts-rotated : goal.ghosts-rotated
ghosts-rotated g a = record { name = a.blank.name }
