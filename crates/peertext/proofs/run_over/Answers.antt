use Rattle.peertext.proofs.run_over.Goals as goal

pub returns : goal.returns
returns g c = (_, _, c.run_with-script.ensures)
