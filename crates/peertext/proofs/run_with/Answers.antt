use Rattle.peertext.proofs.run_with.Goals as goal

pub returns : goal.returns
returns g c = (_, _, rw c.is_some.ensures at c.run_counted-outcome.ensures, c.write_log.ensures, c.first_failure-failure.ensures)
