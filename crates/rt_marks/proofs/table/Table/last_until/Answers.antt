use Rattle.std.proofs.Common.{◌∙◌, arith}
use Rattle.rt_marks.specs.Marks.{comes_before}
use Rattle.rt_marks.specs.Seen.{spotted}
use Rattle.rt_marks.specs.Tables.{marks_in_table}
use Rattle.rt_marks.proofs.Searching.{found_last, found_none}
use Rattle.rt_marks.proofs.Slots.{are_ordered}
use Rattle.rt_marks.proofs.table.Table.last_until.Goals as goal

pub count_before_spot-count-requires : goal.count_before_spot-count-requires
count_before_spot-count-requires c = are_ordered _ _ _ c.requires

pub mark_at-requires : goal.mark_at-requires
mark_at-requires c = are_ordered _ _ _ c.requires

pub returns-then-count-eq0 : goal.returns-then-count-eq0
returns-then-count-eq0 c = found_none (λ m. comes_before m (spotted c.args.here.now)) (marks_in_table c.args.self.now) c.count_before_spot-count.result c.count_before_spot-count.ensures c.if-count-eq0.true

pub returns-else-count-eq0 : goal.returns-else-count-eq0
returns-else-count-eq0 c = c.mark_at.ensures ∙ found_last (λ m. comes_before m (spotted c.args.here.now)) (marks_in_table c.args.self.now) c.count_before_spot-count.result c.count_before_spot-count.ensures (omega (arith, c.if-count-eq0.false))
