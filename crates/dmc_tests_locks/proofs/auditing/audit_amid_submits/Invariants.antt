use Rattle.dmc_tests_locks.proofs.auditing.audit_amid_submits.Given as goal

abbrev pub ghosts-audited : goal.ghosts-audited
ghosts-audited g a = record { name = a.blank.name }
