use Rattle.rt_index.proofs.Complete.{written_index}
use Rattle.rt_index.proofs.laws.printed_place.Goals as goal

pub returns : goal.returns
returns c = written_index
