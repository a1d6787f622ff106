use Rattle.dmc_tests_shared.proofs.segments.renewed_tokens.Given as goal

abbrev pub ghosts-renew_circle : goal.ghosts-renew_circle
ghosts-renew_circle g a = record { name = a.blank.name }
