use Rattle.dmc_tests_locks.proofs.shards.shards_in_order.Given as goal

abbrev pub ghosts-are_shards : goal.ghosts-are_shards
ghosts-are_shards g a = record { name = a.blank.name }
