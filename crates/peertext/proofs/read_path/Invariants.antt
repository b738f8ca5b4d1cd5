use Rattle.peertext.proofs.read_path.Given as goal

abbrev pub ghosts-read_file-A-Ledger : goal.ghosts-read_file-A-Ledger
ghosts-read_file-A-Ledger a = record { name = a.reads.name; parts = a.reads.parts }

abbrev pub ghosts-read_file-B-Ledger : goal.ghosts-read_file-B-Ledger
ghosts-read_file-B-Ledger a = record { name = a.failed_reads.name; parts = a.failed_reads.parts }
