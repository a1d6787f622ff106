use Rattle.dmc_tests_locks.proofs.shard_workers.worker_leaves_a_shard.Given as goal

abbrev pub ghosts-run_leaving : goal.ghosts-run_leaving
ghosts-run_leaving g a = record { name = a.blank.name }
