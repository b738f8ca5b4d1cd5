use Rattle.peertext.proofs.counted.run_counted.Goals as goal

pub returns : goal.returns
returns g c = rw (c.new-script.ensures.inner, c.new-script.ensures.calls, c.new-script.ensures.failures, c.new-out.ensures.inner, c.new-out.ensures.calls, c.new-out.ensures.failures, c.begin.ensures, c.begin-2.ensures, c.begin-3.ensures, c.begin-4.ensures) at c.run_site-outcome.ensures.runs
