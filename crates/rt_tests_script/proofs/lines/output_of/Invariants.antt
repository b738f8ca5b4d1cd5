use Rattle.rt_tests_script.proofs.lines.output_of.Given as goal

abbrev pub ghosts-output-A-Ledger : goal.ghosts-output-A-Ledger
ghosts-output-A-Ledger a = record { name = a.reads.name; parts = a.reads.parts }

abbrev pub ghosts-output-B-Ledger : goal.ghosts-output-B-Ledger
ghosts-output-B-Ledger a = record { name = a.failed_reads.name; parts = a.failed_reads.parts }

abbrev pub ghosts-output-C-Ledger : goal.ghosts-output-C-Ledger
ghosts-output-C-Ledger a = record { name = a.writes.name; parts = a.writes.parts }

abbrev pub ghosts-output-D-Ledger : goal.ghosts-output-D-Ledger
ghosts-output-D-Ledger a = record { name = a.failed_writes.name; parts = a.failed_writes.parts }
