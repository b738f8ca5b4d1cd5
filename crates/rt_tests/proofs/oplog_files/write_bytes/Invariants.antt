use Rattle.rt_tests.proofs.oplog_files.write_bytes.Given as goal

abbrev pub ghosts-write_in-A-Ledger : goal.ghosts-write_in-A-Ledger
ghosts-write_in-A-Ledger a = record { name = a.writes.name; parts = a.writes.parts }

abbrev pub ghosts-write_in-B-Ledger : goal.ghosts-write_in-B-Ledger
ghosts-write_in-B-Ledger a = record { name = a.failures.name; parts = a.failures.parts }
