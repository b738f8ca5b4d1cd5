use Rattle.rt_lines.proofs.Told.{end_told, start_stays, start_told}
use Rattle.rt_lines.proofs.laws.told_lines.Goals as goal

pub returns-clause-start_named : goal.returns-clause-start_named
returns-clause-start_named g c cells line end limits chosen d low e = start_told cells line end limits chosen d low e

pub returns-clause-start_kept : goal.returns-clause-start_kept
returns-clause-start_kept g c cells end limits chosen stamp position d f s e = start_stays cells end limits chosen stamp position d f s e

pub returns-clause-end_named : goal.returns-clause-end_named
returns-clause-end_named g c cells start line limits chosen d high e = end_told cells start line limits chosen d high e
