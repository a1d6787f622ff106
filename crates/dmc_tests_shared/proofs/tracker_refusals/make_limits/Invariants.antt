use Rattle.dmc_tests_shared.proofs.tracker_refusals.make_limits.Given as goal

abbrev pub ghosts-limit : goal.ghosts-limit
ghosts-limit g a = record { name = a.blank.name }
