use Rattle.dmc_tests_shared.proofs.tracker_refusals.units_of_others.Given as goal

abbrev pub ghosts-units : goal.ghosts-units
ghosts-units g a = record { name = a.blank.name }
