use Rattle.peertext.proofs.counted.read_file.Goals as goal

pub returns-clause-read : goal.returns-clause-read
returns-clause-read g c = (_, c.read_counted-read.ensures.read)
