use Rattle.rt_tests_script.proofs.stops.run_of.Given as goal

abbrev pub ghosts-read_in-A-Ledger : goal.ghosts-read_in-A-Ledger
ghosts-read_in-A-Ledger g a = record { name = a.reads.name; parts = a.reads.parts }

abbrev pub ghosts-read_in-B-Ledger : goal.ghosts-read_in-B-Ledger
ghosts-read_in-B-Ledger g a = record { name = a.failures.name; parts = a.failures.parts }
