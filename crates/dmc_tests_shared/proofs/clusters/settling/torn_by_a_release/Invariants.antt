use Rattle.dmc_tests_shared.proofs.clusters.settling.torn_by_a_release.Given as goal

abbrev pub ghosts-settle_in : goal.ghosts-settle_in
ghosts-settle_in g a = record { name = a.blank.name }
