use Rattle.std.proofs.Common.{◌∙◌, not}
use Rattle.rt_marks.specs.Marks.{comes_before}
use Rattle.rt_marks.specs.Seen.{spotted}
use Rattle.rt_marks.specs.Tables.{marks_in_table}
use Rattle.rt_marks.proofs.Searching.{found_next, twice}
use Rattle.rt_marks.proofs.Slots.{are_ordered}
use Rattle.rt_marks.proofs.table.Table.first_after.Goals as goal

pub count_until-requires : goal.count_until-requires
count_until-requires c = are_ordered _ _ _ c.requires

pub mark_at-requires : goal.mark_at-requires
mark_at-requires c = are_ordered _ _ _ c.requires

pub returns : goal.returns
returns c = c.mark_at.ensures ∙ found_next (λ m. not (comes_before (spotted c.args.here.now) m)) (comes_before (spotted c.args.here.now)) (λ m. twice (comes_before (spotted c.args.here.now) m)) (marks_in_table c.args.self.now) c.count_until.result c.count_until.ensures
