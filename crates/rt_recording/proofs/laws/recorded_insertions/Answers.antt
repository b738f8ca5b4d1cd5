use Rattle.rt_recording.proofs.PutBackInTurn.{insertions_back}
use Rattle.rt_recording.proofs.laws.recorded_insertions.Goals as goal

pub returns : goal.returns
returns c = insertions_back
