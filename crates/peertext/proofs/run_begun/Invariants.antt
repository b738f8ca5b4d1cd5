use Rattle.peertext.proofs.run_begun.Given as goal

abbrev pub ghosts-run_over-A-Ledger : goal.ghosts-run_over-A-Ledger
ghosts-run_over-A-Ledger a = record { name = a.counts.reads.name; parts = a.counts.reads.parts }

abbrev pub ghosts-run_over-B-Ledger : goal.ghosts-run_over-B-Ledger
ghosts-run_over-B-Ledger a = record { name = a.counts.failed_reads.name; parts = a.counts.failed_reads.parts }

abbrev pub ghosts-run_over-C-Ledger : goal.ghosts-run_over-C-Ledger
ghosts-run_over-C-Ledger a = record { name = a.counts.writes.name; parts = a.counts.writes.parts }

abbrev pub ghosts-run_over-D-Ledger : goal.ghosts-run_over-D-Ledger
ghosts-run_over-D-Ledger a = record { name = a.counts.failed_writes.name; parts = a.counts.failed_writes.parts }
