use Rattle.rt_store.proofs.Finding.{found_there, place_found, stamp_held}
use Rattle.rt_store.proofs.laws.found_cells.Goals as goal

pub returns-clause-held : goal.returns-clause-held
returns-clause-held c s cells stamp = stamp_held cells stamp

pub returns-clause-position : goal.returns-clause-position
returns-clause-position c s cells stamp position = found_there cells stamp position

pub returns-clause-place : goal.returns-clause-place
returns-clause-place c s cells stamp cell place = place_found cells stamp cell place
