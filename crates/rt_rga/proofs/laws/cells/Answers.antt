use Rattle.rt_rga.proofs.Corollaries.{cells_distinct, cells_have, cells_named, cells_older, cells_written, root_absent}
use Rattle.rt_rga.proofs.Final.{ends_final}
use Rattle.rt_rga.proofs.Sel.{no_sel}
use Rattle.rt_rga.proofs.laws.cells.Goals as goal

pub returns-clause-characters : goal.returns-clause-characters
returns-clause-characters c = λ set s h. cells_have set h s

pub returns-clause-ends : goal.returns-clause-ends
returns-clause-ends c = ends_final

pub returns-clause-distinct : goal.returns-clause-distinct
returns-clause-distinct c = cells_distinct

pub returns-clause-no_root : goal.returns-clause-no_root
returns-clause-no_root c = root_absent

pub returns-clause-older : goal.returns-clause-older
returns-clause-older c = cells_older

pub returns-clause-written : goal.returns-clause-written
returns-clause-written c = cells_written

pub returns-clause-names : goal.returns-clause-names
returns-clause-names c = cells_named

pub returns-clause-no_sel : goal.returns-clause-no_sel
returns-clause-no_sel c = no_sel
