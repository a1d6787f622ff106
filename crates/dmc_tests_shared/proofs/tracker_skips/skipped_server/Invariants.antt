use Rattle.dmc_tests_shared.proofs.tracker_skips.skipped_server.Given as goal

abbrev pub ghosts-skips : goal.ghosts-skips
ghosts-skips g a = record { name = a.blank.name }
