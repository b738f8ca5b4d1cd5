use Rattle.std.proofs.Common.{◌≡◌, ap}
use Rattle.rt_marks.specs.Marks.{marks_removed}
use Rattle.rt_marks.specs.Seen.{IsIndexed, in_slots, seen_all}
use Rattle.rt_marks.specs.Tables.{marks_in_table, slots_of}
use Rattle.rt_marks.proofs.Removing.{rewritten, rewritten_table, right_room}
use Rattle.rt_marks.proofs.Slots.{are_ordered}
use Rattle.rt_marks.proofs.table.Table.removed.Goals as goal

pub count_below-start-requires : goal.count_below-start-requires
count_below-start-requires c = are_ordered _ _ _ c.requires

pub write_those-middle-requires : goal.write_those-middle-requires
write_those-middle-requires c =
    let table = c.args.self.now in
    (rewritten (slots_of table) (seen_all c.remove_places.new.marks.items) table.by_name.items table.in_order.items c.count_below-start.result c.args.place c.args.n c.requires c.count_below-start.ensures c.remove_places.ensures).room_left

pub write_those-requires : goal.write_those-requires
write_those-requires c =
    let table = c.args.self.now in
    let middle = c.write_those-middle.new.self in
    let r = rewritten (slots_of table) (seen_all c.remove_places.new.marks.items) table.by_name.items table.in_order.items c.count_below-start.result c.args.place c.args.n c.requires c.count_below-start.ensures c.remove_places.ensures in
    right_room (slots_of table) (seen_all c.remove_places.new.marks.items) (slots_of middle) table.by_name.items middle.by_name.items table.in_order.items middle.in_order.items c.count_below-start.result c.args.place c.args.n c.write_those-middle.result r
    (ap (λ v. seen_all v.items) c.write_those-middle.ensures.marks) (ap (λ v. v.items) c.write_those-middle.ensures.by_name) c.write_those-middle.ensures.end c.write_those-middle.ensures.in_order

then : (c : goal.After-write_those) → IsIndexed (slots_of c.write_those.new.self) c.write_those.new.self.by_name.items c.write_those.new.self.in_order.items × (in_slots (slots_of c.write_those.new.self) c.write_those.new.self.in_order.items ≡ marks_removed c.args.place c.args.n (marks_in_table c.args.self.now))
then c =
    let table = c.args.self.now in
    let middle = c.write_those-middle.new.self in
    let end = c.write_those.new.self in
    let r = rewritten (slots_of table) (seen_all c.remove_places.new.marks.items) table.by_name.items table.in_order.items c.count_below-start.result c.args.place c.args.n c.requires c.count_below-start.ensures c.remove_places.ensures in
    rewritten_table (slots_of table) (seen_all c.remove_places.new.marks.items) (slots_of middle) (slots_of end) table.by_name.items middle.by_name.items end.by_name.items table.in_order.items middle.in_order.items end.in_order.items c.count_below-start.result c.args.place c.args.n c.write_those-middle.result r
    (ap (λ v. seen_all v.items) c.write_those-middle.ensures.marks) (ap (λ v. v.items) c.write_those-middle.ensures.by_name) c.write_those-middle.ensures.end c.write_those-middle.ensures.in_order
    (ap (λ v. seen_all v.items) c.write_those.ensures.marks) (ap (λ v. v.items) c.write_those.ensures.by_name) c.write_those.ensures.in_order

pub returns-clause-table : goal.returns-clause-table
returns-clause-table c = (then c).0

pub returns-clause-marks : goal.returns-clause-marks
returns-clause-marks c = (then c).1
