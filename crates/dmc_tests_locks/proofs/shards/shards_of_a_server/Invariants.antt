use Rattle.dmc_tests_locks.proofs.shards.shards_of_a_server.Given as goal

abbrev pub ghosts-run_shards : goal.ghosts-run_shards
ghosts-run_shards g a = record { name = a.blank.name }
