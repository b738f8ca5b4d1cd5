use Rattle.peertext.proofs.counted.begin_with.Goals as goal

pub returns : goal.returns
returns g c = (_, c.begun_counted-begun.ensures)
