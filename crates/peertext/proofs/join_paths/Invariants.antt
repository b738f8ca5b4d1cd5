use Rattle.peertext.proofs.join_paths.Given as goal

abbrev pub ghosts-join_two-A-Ledger : goal.ghosts-join_two-A-Ledger
ghosts-join_two-A-Ledger a = record { name = a.reads.name; parts = a.reads.parts }

abbrev pub ghosts-join_two-B-Ledger : goal.ghosts-join_two-B-Ledger
ghosts-join_two-B-Ledger a = record { name = a.failed_reads.name; parts = a.failed_reads.parts }

abbrev pub ghosts-join_two-C-Ledger : goal.ghosts-join_two-C-Ledger
ghosts-join_two-C-Ledger a = record { name = a.more_reads.name; parts = a.more_reads.parts }

abbrev pub ghosts-join_two-D-Ledger : goal.ghosts-join_two-D-Ledger
ghosts-join_two-D-Ledger a = record { name = a.more_failed_reads.name; parts = a.more_failed_reads.parts }
