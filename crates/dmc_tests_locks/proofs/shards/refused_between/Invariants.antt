use Rattle.dmc_tests_locks.proofs.shards.refused_between.Given as goal

abbrev pub ghosts-run_refusal : goal.ghosts-run_refusal
ghosts-run_refusal g a = record { name = a.blank.name }
