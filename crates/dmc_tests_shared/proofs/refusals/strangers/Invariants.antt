use Rattle.dmc_tests_shared.proofs.refusals.strangers.Given as goal

abbrev pub ghosts-strangers_of : goal.ghosts-strangers_of
ghosts-strangers_of g a = record { name = a.blank.name }
