use Rattle.rt_recording.proofs.Replaced.{replacement_back}
use Rattle.rt_recording.proofs.laws.recorded_replacement.Goals as goal

pub returns : goal.returns
returns c = replacement_back
