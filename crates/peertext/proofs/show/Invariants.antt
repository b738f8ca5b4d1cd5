use Rattle.peertext.proofs.show.Given as goal

abbrev pub ghosts-show_file-A-Ledger : goal.ghosts-show_file-A-Ledger
ghosts-show_file-A-Ledger a = record { name = a.reads.name; parts = a.reads.parts }

abbrev pub ghosts-show_file-B-Ledger : goal.ghosts-show_file-B-Ledger
ghosts-show_file-B-Ledger a = record { name = a.failed_reads.name; parts = a.failed_reads.parts }

abbrev pub ghosts-show_file-C-Ledger : goal.ghosts-show_file-C-Ledger
ghosts-show_file-C-Ledger a = record { name = a.writes.name; parts = a.writes.parts }

abbrev pub ghosts-show_file-D-Ledger : goal.ghosts-show_file-D-Ledger
ghosts-show_file-D-Ledger a = record { name = a.failed_writes.name; parts = a.failed_writes.parts }
