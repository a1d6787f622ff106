use Rattle.dmc_tests_base.proofs.ledgers.two_setups.Given as goal

abbrev pub ghosts-apart-S-Setup : goal.ghosts-apart-S-Setup
ghosts-apart-S-Setup g a = record { name = a.left.name }

abbrev pub ghosts-apart-T-Setup : goal.ghosts-apart-T-Setup
ghosts-apart-T-Setup g a = record { name = a.right.name }
