use Rattle.dmc_tests_shared.proofs.tracker_refusals.full_closed_stranger.Given as goal

abbrev pub ghosts-strangers : goal.ghosts-strangers
ghosts-strangers g a = record { name = a.blank.name }

abbrev pub ghosts-passes : goal.ghosts-passes
ghosts-passes g a = record { name = a.blank.name }
