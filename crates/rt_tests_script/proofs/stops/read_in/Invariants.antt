use Rattle.rt_tests_script.proofs.stops.read_in.Given as goal

abbrev pub ghosts-written-A-Ledger : goal.ghosts-written-A-Ledger
ghosts-written-A-Ledger g a = record { name = a.writes.name; parts = a.writes.parts }

abbrev pub ghosts-written-B-Ledger : goal.ghosts-written-B-Ledger
ghosts-written-B-Ledger g a = record { name = a.failures.name; parts = a.failures.parts }
