use Rattle.dmc_tests_locks.proofs.shard_workers.worker_comes_to_a_shard.Given as goal

abbrev pub ghosts-run_coming : goal.ghosts-run_coming
ghosts-run_coming g a = record { name = a.blank.name }
