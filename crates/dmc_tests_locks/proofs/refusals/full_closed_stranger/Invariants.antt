use Rattle.dmc_tests_locks.proofs.refusals.full_closed_stranger.Given as goal

abbrev pub ghosts-full : goal.ghosts-full
ghosts-full g a = record { name = a.blank.name }

abbrev pub ghosts-closed : goal.ghosts-closed
ghosts-closed g a = record { name = a.blank.name }

abbrev pub ghosts-strange : goal.ghosts-strange
ghosts-strange g a = record { name = a.blank.name }

abbrev pub ghosts-twice : goal.ghosts-twice
ghosts-twice g a = record { name = a.blank.name }

abbrev pub ghosts-others : goal.ghosts-others
ghosts-others g a = record { name = a.blank.name }
