use Rattle.peertext.proofs.begun_with.Given as goal

abbrev pub ghosts-begin_with-A-Ledger : goal.ghosts-begin_with-A-Ledger
ghosts-begin_with-A-Ledger a = record { name = a.reads.name; parts = a.reads.parts }

abbrev pub ghosts-begin_with-B-Ledger : goal.ghosts-begin_with-B-Ledger
ghosts-begin_with-B-Ledger a = record { name = a.failed_reads.name; parts = a.failed_reads.parts }
