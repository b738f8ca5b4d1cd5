use Rattle.std.proofs.Common.{◌∙◌, nat_lt, arith}
use Rattle.rt_marks.specs.Tables.{marks_in_table}
use Rattle.rt_marks.proofs.Searching.{found_last, found_none}
use Rattle.rt_marks.proofs.Slots.{are_ordered}
use Rattle.rt_marks.proofs.table.Table.last_before.Goals as goal

pub count_below-count-requires : goal.count_below-count-requires
count_below-count-requires c = are_ordered _ _ _ c.requires

pub mark_at-requires : goal.mark_at-requires
mark_at-requires c = are_ordered _ _ _ c.requires

pub returns-then-count-eq0 : goal.returns-then-count-eq0
returns-then-count-eq0 c = found_none (λ m. nat_lt m.place c.args.place) (marks_in_table c.args.self.now) c.count_below-count.result c.count_below-count.ensures c.if-count-eq0.true

pub returns-else-count-eq0 : goal.returns-else-count-eq0
returns-else-count-eq0 c = c.mark_at.ensures ∙ found_last (λ m. nat_lt m.place c.args.place) (marks_in_table c.args.self.now) c.count_below-count.result c.count_below-count.ensures (omega (arith, c.if-count-eq0.false))
