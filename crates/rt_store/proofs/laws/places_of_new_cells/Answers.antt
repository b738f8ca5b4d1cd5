use Rattle.rt_store.proofs.Places.{length_put, placed}
use Rattle.rt_store.proofs.laws.places_of_new_cells.Goals as goal

pub returns-clause-placed : goal.returns-clause-placed
returns-clause-placed c s cells left new = placed cells left new

pub returns-clause-more : goal.returns-clause-more
returns-clause-more c s cells new position = length_put position new cells
