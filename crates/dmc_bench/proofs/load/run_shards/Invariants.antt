use Rattle.dmc_bench.proofs.load.run_shards.Given as goal

abbrev pub ghosts-serve_shards : goal.ghosts-serve_shards
ghosts-serve_shards g a = record { name = a.blank.name }
