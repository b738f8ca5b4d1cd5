use Rattle.std.proofs.Common.{◌≡◌, ◌∙◌, ◌<◌, ap, refl, subst, sym}
use Rattle.rt_marks.specs.Marks.{put_mark}
use Rattle.rt_marks.specs.Seen.{IsIndexed, in_slot, in_slots, seen_mark}
use Rattle.rt_marks.specs.Tables.{marks_in_table, slots_of}
use Rattle.rt_marks.proofs.Changes.{moved_out_table, moved_table, stands_before}
use Rattle.rt_marks.proofs.Slots.{are_ordered}
use Rattle.rt_marks.proofs.Tables.{kept_there, slot_read, there_kept}
use Rattle.rt_marks.proofs.table.Table.move_to.Goals as goal

pub count_before-from-requires : goal.count_before-from-requires
count_before-from-requires c = are_ordered _ _ _ c.requires.table

pub remove-requires : goal.remove-requires
remove-requires c =
    let table = c.args.self.now in
    let here = slot_read table.marks.items c.args.slot c.index.result.now (kept_there table.marks.items c.args.slot c.requires.there) c.index.ensures in
    subst (λ v. c.count_before-from.result < v) (sym table.in_order.ok.0)
    (stands_before (slots_of table) table.by_name.items table.in_order.items c.args.slot c.count_before-from.result (seen_mark c.index.result.now) c.requires.table c.requires.there here c.count_before-from.ensures)

pub count_before-to-requires : goal.count_before-to-requires
count_before-to-requires c =
    let table = c.args.self.now in
    let here = slot_read table.marks.items c.args.slot c.index.result.now (kept_there table.marks.items c.args.slot c.requires.there) c.index.ensures in
    moved_out_table (slots_of table) (slots_of c.write.new.self) table.by_name.items table.in_order.items c.write.new.self.in_order.items c.args.slot c.count_before-from.result _ (seen_mark c.index.result.now) c.requires.table c.requires.there here c.count_before-from.ensures c.write.ensures.marks (ap (λ v. v.items) c.write.ensures.in_order ∙ c.remove.ensures.items)

moved : (c : goal.After-insert_number) → IsIndexed (slots_of c.write.new.self) c.write.new.self.by_name.items c.insert_number.new.numbers.items × (in_slots (slots_of c.write.new.self) c.insert_number.new.numbers.items ≡ put_mark (record (in_slot (slots_of c.args.self.now) c.args.slot) { place = c.args.place; gravity = c.args.gravity }) (marks_in_table c.args.self.now))
moved c =
    let table = c.args.self.now in
    let new = c.write.new.self in
    let here = slot_read table.marks.items c.args.slot c.index.result.now (kept_there table.marks.items c.args.slot c.requires.there) c.index.ensures in
    let then = slot_read new.marks.items c.args.slot c.index-2.result.now (there_kept (slots_of table) new.marks.items c.args.slot _ c.write.ensures.marks c.requires.there) c.index-2.ensures in
    moved_table (slots_of table) (slots_of new) table.by_name.items new.by_name.items table.in_order.items new.in_order.items c.insert_number.new.numbers.items c.args.slot c.count_before-from.result c.count_before-to.result
    (record (in_slot (slots_of table) c.args.slot) { place = c.args.place; gravity = c.args.gravity }) (seen_mark c.index.result.now) (seen_mark c.index-2.result.now) c.requires.table c.requires.there here refl c.count_before-from.ensures
    c.write.ensures.marks (ap (λ v. v.items) c.write.ensures.by_name) (ap (λ v. v.items) c.write.ensures.in_order ∙ c.remove.ensures.items) then c.count_before-to.ensures c.insert_number.ensures

pub returns-clause-table : goal.returns-clause-table
returns-clause-table c = (moved c).0

pub returns-clause-marks : goal.returns-clause-marks
returns-clause-marks c = (moved c).1
