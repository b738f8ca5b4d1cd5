use Rattle.std.proofs.Common.{◌∙◌, ap, sym}
use Rattle.rt_marks.specs.Marks.{mark_of_name}
use Rattle.rt_marks.specs.Tables.{by_names, slots_of}
use Rattle.rt_marks.proofs.Names.{listed}
use Rattle.rt_marks.proofs.Slots.{view_named}
use Rattle.rt_marks.proofs.marks.Marks.names.Goals as goal

pub returns-clause-all : goal.returns-clause-all
returns-clause-all c = λ name.
    let table = c.self.inside.table in
    listed name _ (by_names table) c.args.self.now c.in_ok-names.ensures (ap (mark_of_name name) (sym c.self.view_is) ∙ view_named name (slots_of table) _ _ c.self.invariant)
