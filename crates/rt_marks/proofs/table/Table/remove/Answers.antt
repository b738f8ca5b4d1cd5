use Rattle.std.proofs.Common.{◌∙◌, ap}
use Rattle.rt_marks.specs.Marks.{without_mark}
use Rattle.rt_marks.specs.Tables.{marks_in_table, slots_of}
use Rattle.rt_marks.proofs.Edits.{nothing_removed}
use Rattle.rt_marks.proofs.Searching.{none_named}
use Rattle.rt_marks.proofs.table.Table.remove.Goals as goal

pub returns-in-Ok-clause-marks : goal.returns-in-Ok-clause-marks
returns-in-Ok-clause-marks c = c.take.ensures.marks ∙ ap (λ q. without_mark q (marks_in_table c.args.self.now)) (c.in-Ok.ensures.found 0)

pub returns-in-Err-clause-marks : goal.returns-in-Err-clause-marks
returns-in-Err-clause-marks c = nothing_removed c.args.name.now (marks_in_table c.args.self.now) (none_named c.args.name.now (slots_of c.args.self.now) c.args.self.now.by_name.items c.args.self.now.in_order.items c.in-Err.field-0 c.requires c.in-Err.ensures.gap)
