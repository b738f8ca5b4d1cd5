use Rattle.peertext.proofs.counted.show_counted.Goals as goal

pub returns : goal.returns
returns g c = rw (c.new-file.ensures.inner, c.new-file.ensures.calls, c.new-file.ensures.failures, c.new-out.ensures.inner, c.new-out.ensures.calls, c.new-out.ensures.failures, c.begin.ensures, c.begin-2.ensures, c.begin-3.ensures, c.begin-4.ensures) at c.show_lines-shown.ensures.shown
