use Rattle.peertext.proofs.counted.show_file.Goals as goal

pub returns : goal.returns
returns g c = (_, _, _, rw (← c.into_inner.ensures) at c.show_counted-shown.ensures)
