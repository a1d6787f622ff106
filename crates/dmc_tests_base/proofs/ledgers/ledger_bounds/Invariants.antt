use Rattle.dmc_tests_base.proofs.ledgers.ledger_bounds.Given as goal

abbrev pub ghosts-bounds : goal.ghosts-bounds
ghosts-bounds g a = record { name = a.blank.name }
