use Rattle.dmc_tests_shared.proofs.standbys.cancel_recorded.Given as goal

abbrev pub ghosts-write_cancel : goal.ghosts-write_cancel
ghosts-write_cancel g a = record { name = a.blank.name }
