use Rattle.rt_files.proofs.sending.export.Given as goal

abbrev pub ghosts-spelled-A-Ledger : goal.ghosts-spelled-A-Ledger
ghosts-spelled-A-Ledger a = record { name = a.writes.name; parts = a.writes.parts }

abbrev pub ghosts-spelled-B-Ledger : goal.ghosts-spelled-B-Ledger
ghosts-spelled-B-Ledger a = record { name = a.failures.name; parts = a.failures.parts }
