use Rattle.std.proofs.Common.{subst}
use Rattle.rt_marks.specs.Marks.{comes_before}
use Rattle.rt_marks.specs.Seen.{MarksPartAt}
use Rattle.rt_marks.specs.Tables.{marks_in_table}
use Rattle.rt_marks.proofs.table.Table.count_before.Goals as goal

pub returns : goal.returns
returns c = subst (λ v. MarksPartAt (λ m. comes_before m v) (marks_in_table c.args.self.now) c.count_before_spot.result) c.spot.ensures c.count_before_spot.ensures
