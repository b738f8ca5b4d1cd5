use Rattle.rt_revert.proofs.CellCounts.{reversion_cells}
use Rattle.rt_revert.proofs.Steps.{reversion_made, reversion_may, reversion_sound}
use Rattle.rt_revert.proofs.laws.reversion_drafts.Goals as goal

pub returns-clause-may_be_made : goal.returns-clause-may_be_made
returns-clause-may_be_made c = reversion_may

pub returns-clause-made : goal.returns-clause-made
returns-clause-made c = reversion_made

pub returns-clause-characters : goal.returns-clause-characters
returns-clause-characters c = reversion_cells

pub returns-clause-sound : goal.returns-clause-sound
returns-clause-sound c = reversion_sound
