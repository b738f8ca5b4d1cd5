use Rattle.rt_script.proofs.changes.change_bytes.Given as goal

abbrev pub ghosts-rendered-A-Ledger : goal.ghosts-rendered-A-Ledger
ghosts-rendered-A-Ledger a = record { name = a.writes.name; parts = a.writes.parts }

abbrev pub ghosts-rendered-B-Ledger : goal.ghosts-rendered-B-Ledger
ghosts-rendered-B-Ledger a = record { name = a.failures.name; parts = a.failures.parts }
