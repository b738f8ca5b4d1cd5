use Rattle.std.proofs.Common.{◌≡◌}
use Rattle.rt_marks.specs.Seen.{slot_stands}
use Rattle.rt_marks.specs.Tables.{slots_of}
use Rattle.rt_marks.proofs.Writing.{IsWritten}
use Rattle.rt_marks.proofs.table.Table.write_those.Given as goal

abbrev pub invariant-loop-rank : goal.invariant-loop-rank
invariant-loop-rank l = record {
  marks : l.self.marks ≡ l.fn.self.marks;
  by_name : l.self.by_name ≡ l.fn.self.by_name;
  written : IsWritten (slot_stands l.place l.gravity (slots_of l.fn.self)) l.fn.self.by_name.items l.fn.self.in_order.items l.self.in_order.items l.at l.next l.rank;
}
