-- What contracts see of a table of marks.
use Rattle.std.specs.Prelude.{◌<◌, List, vec_len, vec_capacity}
use Rattle.rt_marks.specs.declared.table.Table.{Table}
use Rattle.rt_marks.specs.Marks.{Mark}
use Rattle.rt_marks.specs.Seen.{seen_all, in_slots, IsIndexed}

-- the marks of the slots
abbrev pub slots_of : Table → List Mark
slots_of table = seen_all table.marks.items

-- the marks in order
abbrev pub marks_in_table : Table → List Mark
marks_in_table table = in_slots (slots_of table) table.in_order.items

-- the marks by the bytes of their names
abbrev pub by_names : Table → List Mark
by_names table = in_slots (slots_of table) table.by_name.items

abbrev pub IsMarkTable : Table → Type 0
IsMarkTable table = IsIndexed (slots_of table) table.by_name.items table.in_order.items

-- there is room for one mark more
abbrev pub HasRoomForMark : Table → Type 0
HasRoomForMark table =
    (vec_len table.marks < vec_capacity table.marks)
    × (vec_len table.by_name < vec_capacity table.by_name) × (vec_len table.in_order < vec_capacity table.in_order)
