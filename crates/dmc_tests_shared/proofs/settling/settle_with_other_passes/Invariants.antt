use Rattle.dmc_tests_shared.proofs.settling.settle_with_other_passes.Given as goal

abbrev pub ghosts-settle_in_turn : goal.ghosts-settle_in_turn
ghosts-settle_in_turn g a = record { name = a.blank.name }
