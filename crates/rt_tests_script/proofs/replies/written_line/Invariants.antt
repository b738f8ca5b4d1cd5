use Rattle.rt_tests_script.proofs.replies.written_line.Given as goal

abbrev pub ghosts-written-A-Ledger : goal.ghosts-written-A-Ledger
ghosts-written-A-Ledger a = record { name = a.writes.name; parts = a.writes.parts }

abbrev pub ghosts-written-B-Ledger : goal.ghosts-written-B-Ledger
ghosts-written-B-Ledger a = record { name = a.failures.name; parts = a.failures.parts }
