use Rattle.dmc_bench.proofs.load.run_shared.Given as goal

abbrev pub ghosts-serve_shared : goal.ghosts-serve_shared
ghosts-serve_shared g a = record { name = a.blank.name }
