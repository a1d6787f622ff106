use Rattle.dmc_tests_shared.proofs.settling.settle_circle.Given as goal

abbrev pub ghosts-settle_all : goal.ghosts-settle_all
ghosts-settle_all g a = record { name = a.blank.name }
