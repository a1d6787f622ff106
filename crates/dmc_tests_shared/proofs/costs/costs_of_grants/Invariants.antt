use Rattle.dmc_tests_shared.proofs.costs.costs_of_grants.Given as goal

abbrev pub ghosts-serve_and_settle : goal.ghosts-serve_and_settle
ghosts-serve_and_settle g a = record { name = a.blank.name }
