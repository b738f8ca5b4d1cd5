use Rattle.rt_script.proofs.engine.write_answer.Given as goal

abbrev pub ghosts-rendered-A-Ledger : goal.ghosts-rendered-A-Ledger
ghosts-rendered-A-Ledger g a = record { name = a.writes.name; parts = a.writes.parts }

abbrev pub ghosts-rendered-B-Ledger : goal.ghosts-rendered-B-Ledger
ghosts-rendered-B-Ledger g a = record { name = a.failures.name; parts = a.failures.parts }
