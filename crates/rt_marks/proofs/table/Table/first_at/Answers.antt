use Rattle.std.proofs.Common.{◌∙◌, nat_le, nat_lt}
use Rattle.rt_marks.specs.Tables.{marks_in_table}
use Rattle.rt_marks.proofs.Searching.{found_next, turned}
use Rattle.rt_marks.proofs.Slots.{are_ordered}
use Rattle.rt_marks.proofs.table.Table.first_at.Goals as goal

pub count_below-requires : goal.count_below-requires
count_below-requires c = are_ordered _ _ _ c.requires

pub mark_at-requires : goal.mark_at-requires
mark_at-requires c = are_ordered _ _ _ c.requires

pub returns : goal.returns
returns c = c.mark_at.ensures ∙ found_next (λ m. nat_lt m.place c.args.place) (λ m. nat_le c.args.place m.place) (λ m. turned c.args.place m.place) (marks_in_table c.args.self.now) c.count_below.result c.count_below.ensures
