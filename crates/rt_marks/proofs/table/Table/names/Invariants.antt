use Rattle.std.proofs.Common.{◌≡◌, take}
use Rattle.rt_stamps.specs.Words.{as_words}
use Rattle.rt_marks.specs.Seen.{in_slots, names_of_marks}
use Rattle.rt_marks.specs.Tables.{slots_of}
use Rattle.rt_marks.proofs.table.Table.names.Given as goal

abbrev pub invariant-loop-rank : goal.invariant-loop-rank
invariant-loop-rank l = as_words l.names.items ≡ names_of_marks (in_slots (slots_of l.self) (take l.rank l.self.by_name.items))
