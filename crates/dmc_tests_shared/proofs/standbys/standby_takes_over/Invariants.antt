use Rattle.dmc_tests_shared.proofs.standbys.standby_takes_over.Given as goal

abbrev pub ghosts-take_over : goal.ghosts-take_over
ghosts-take_over g a = record { name = a.blank.name }
