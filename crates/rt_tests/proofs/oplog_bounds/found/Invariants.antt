use Rattle.rt_tests.proofs.oplog_bounds.found.Given as goal

abbrev pub ghosts-read_in-A-Ledger : goal.ghosts-read_in-A-Ledger
ghosts-read_in-A-Ledger a = record { name = a.reads.name; parts = a.reads.parts }

abbrev pub ghosts-read_in-B-Ledger : goal.ghosts-read_in-B-Ledger
ghosts-read_in-B-Ledger a = record { name = a.failures.name; parts = a.failures.parts }
