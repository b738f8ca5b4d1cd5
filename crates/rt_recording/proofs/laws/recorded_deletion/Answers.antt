use Rattle.rt_recording.proofs.Replaced.{deletion_back}
use Rattle.rt_recording.proofs.laws.recorded_deletion.Goals as goal

pub returns : goal.returns
returns c = deletion_back
