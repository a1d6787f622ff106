use Rattle.dmc_tests_shared.proofs.standbys.segments_written.Given as goal

abbrev pub ghosts-write_both : goal.ghosts-write_both
ghosts-write_both g a = record { name = a.blank.name }
