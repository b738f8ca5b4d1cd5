use Rattle.rt_text.proofs.Among.{cells_among}
use Rattle.rt_recording.proofs.laws.characters_in_order.Goals as goal

pub returns : goal.returns
returns c old new h k sub = cells_among old new h k sub
