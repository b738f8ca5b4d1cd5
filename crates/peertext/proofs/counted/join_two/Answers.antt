use Rattle.peertext.proofs.counted.join_two.Goals as goal

pub returns : goal.returns
returns g c = (_, _, c.join_counted-joined.ensures)
