use Rattle.rt_tests_script.proofs.files.shown.Given as goal

abbrev pub ghosts-show_in-A-Ledger : goal.ghosts-show_in-A-Ledger
ghosts-show_in-A-Ledger a = record { name = a.reads.name; parts = a.reads.parts }

abbrev pub ghosts-show_in-B-Ledger : goal.ghosts-show_in-B-Ledger
ghosts-show_in-B-Ledger a = record { name = a.failed_reads.name; parts = a.failed_reads.parts }

abbrev pub ghosts-show_in-C-Ledger : goal.ghosts-show_in-C-Ledger
ghosts-show_in-C-Ledger a = record { name = a.writes.name; parts = a.writes.parts }

abbrev pub ghosts-show_in-D-Ledger : goal.ghosts-show_in-D-Ledger
ghosts-show_in-D-Ledger a = record { name = a.failed_writes.name; parts = a.failed_writes.parts }
