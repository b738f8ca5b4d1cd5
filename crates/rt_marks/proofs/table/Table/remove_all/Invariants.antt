use Rattle.std.proofs.Common.{◌≡◌, ◌≤◌, length, not, take}
use Rattle.rt_stamps.specs.Words.{as_words}
use Rattle.rt_marks.specs.Marks.{is_one_of}
use Rattle.rt_marks.specs.Seen.{SlotsPart}
use Rattle.rt_marks.specs.Tables.{IsMarkTable, marks_in_table, slots_of}
use Rattle.rt_marks.proofs.table.Table.remove_all.Given as goal

abbrev pub invariant-loop-name : goal.invariant-loop-name
invariant-loop-name l = record {
  table : IsMarkTable l.self;
  within : l.kept ≤ length (slots_of l.self);
  marks : marks_in_table l.self ≡ marks_in_table l.fn.self;
  parted : SlotsPart (λ m. not (is_one_of (as_words (take l.name-index l.names)) m)) (slots_of l.self) l.kept;
}
