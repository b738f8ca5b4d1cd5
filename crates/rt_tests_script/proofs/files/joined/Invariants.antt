use Rattle.rt_tests_script.proofs.files.joined.Given as goal

abbrev pub ghosts-join_in-A-Ledger : goal.ghosts-join_in-A-Ledger
ghosts-join_in-A-Ledger a = record { name = a.reads.name; parts = a.reads.parts }

abbrev pub ghosts-join_in-B-Ledger : goal.ghosts-join_in-B-Ledger
ghosts-join_in-B-Ledger a = record { name = a.failed_reads.name; parts = a.failed_reads.parts }

abbrev pub ghosts-join_in-C-Ledger : goal.ghosts-join_in-C-Ledger
ghosts-join_in-C-Ledger a = record { name = a.more_reads.name; parts = a.more_reads.parts }

abbrev pub ghosts-join_in-D-Ledger : goal.ghosts-join_in-D-Ledger
ghosts-join_in-D-Ledger a = record { name = a.more_failed_reads.name; parts = a.more_failed_reads.parts }
