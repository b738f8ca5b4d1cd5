use Rattle.std.proofs.Common.{◌≡◌, ◌∙◌, ◌+◌, ◌-◌, ◌<◌, ap, arith, length, subst, sym}
use Rattle.rt_marks.specs.Marks.{without_mark}
use Rattle.rt_marks.specs.Seen.{IsIndexed, in_slot, in_slots, seen_mark, seen_all}
use Rattle.rt_marks.specs.Tables.{marks_in_table, slots_of}
use Rattle.rt_marks.proofs.Changes.{stands_before, taken_table}
use Rattle.rt_marks.proofs.Slots.{are_ordered}
use Rattle.rt_marks.proofs.Tables.{kept_there, number_read, seen_down, seen_length, slot_read, slot_there, last_there}
use Rattle.rt_marks.proofs.table.Table.take.Goals as goal

pub overflow_sub-last : goal.overflow_sub-last
overflow_sub-last c =
    let table = c.args.self.now in
    let there = slot_there (slots_of table) table.by_name.items c.args.rank c.index-slot.result.now c.requires.table.names_once c.requires.there c.index-slot.ensures in
    omega (arith, there, c.len-last.ensures, table.marks.ok.0, seen_length table.marks.items)

pub rank_of-last_rank-requires-clause-there : goal.rank_of-last_rank-requires-clause-there
rank_of-last_rank-requires-clause-there c =
    let table = c.args.self.now in
    let there = slot_there (slots_of table) table.by_name.items c.args.rank c.index-slot.result.now c.requires.table.names_once c.requires.there c.index-slot.ensures in
    last_there (slots_of table) c.index-slot.result.now c.len-last.result (c.len-last.ensures ∙ table.marks.ok.0 ∙ sym (seen_length table.marks.items)) there

pub index-requires : goal.index-requires
index-requires c =
    let table = c.args.self.now in
    let there = slot_there (slots_of table) table.by_name.items c.args.rank c.index-slot.result.now c.requires.table.names_once c.requires.there c.index-slot.ensures in
    subst (λ v. c.index-slot.result.now < v) (seen_length table.marks.items ∙ sym table.marks.ok.0) there

pub count_before-at-requires : goal.count_before-at-requires
count_before-at-requires c = are_ordered _ _ _ c.requires.table

pub index-requires-2 : goal.index-requires-2
index-requires-2 c =
    let table = c.args.self.now in
    let there = slot_there (slots_of table) table.by_name.items c.args.rank c.index-slot.result.now c.requires.table.names_once c.requires.there c.index-slot.ensures in
    subst (λ v. c.len-last.result - 1 < v) (seen_length table.marks.items ∙ sym table.marks.ok.0)
    (last_there (slots_of table) c.index-slot.result.now c.len-last.result (c.len-last.ensures ∙ table.marks.ok.0 ∙ sym (seen_length table.marks.items)) there)

pub count_before-last_at-requires : goal.count_before-last_at-requires
count_before-last_at-requires c = are_ordered _ _ _ c.requires.table

pub renumber-requires-2-clause-index : goal.renumber-requires-2-clause-index
renumber-requires-2-clause-index c =
    let table = c.args.self.now in
    let there = slot_there (slots_of table) table.by_name.items c.args.rank c.index-slot.result.now c.requires.table.names_once c.requires.there c.index-slot.ensures in
    let last = last_there (slots_of table) c.index-slot.result.now c.len-last.result (c.len-last.ensures ∙ table.marks.ok.0 ∙ sym (seen_length table.marks.items)) there in
    let end = slot_read table.marks.items (c.len-last.result - 1) c.index-2.result.now (kept_there table.marks.items (c.len-last.result - 1) last) c.index-2.ensures in
    stands_before (slots_of table) table.by_name.items table.in_order.items (c.len-last.result - 1) c.count_before-last_at.result (seen_mark c.index-2.result.now) c.requires.table last end c.count_before-last_at.ensures

pub renumber-requires-2-clause-out : goal.renumber-requires-2-clause-out
renumber-requires-2-clause-out c =
    let table = c.args.self.now in
    let there = slot_there (slots_of table) table.by_name.items c.args.rank c.index-slot.result.now c.requires.table.names_once c.requires.there c.index-slot.ensures in
    let here = slot_read table.marks.items c.index-slot.result.now c.index.result.now (kept_there table.marks.items c.index-slot.result.now there) c.index.ensures in
    stands_before (slots_of table) table.by_name.items table.in_order.items c.index-slot.result.now c.count_before-at.result (seen_mark c.index.result.now) c.requires.table there here c.count_before-at.ensures

pub swap_remove-requires : goal.swap_remove-requires
swap_remove-requires c =
    let table = c.args.self.now in
    let there = slot_there (slots_of table) table.by_name.items c.args.rank c.index-slot.result.now c.requires.table.names_once c.requires.there c.index-slot.ensures in
    subst (λ v. c.index-slot.result.now < v) (seen_length table.marks.items ∙ sym table.marks.ok.0) there

taken : (c : goal.After-drop-swap_remove) → IsIndexed (seen_all c.swap_remove.new.self.items) c.renumber.new.numbers.items c.renumber-2.new.numbers.items × (in_slots (seen_all c.swap_remove.new.self.items) c.renumber-2.new.numbers.items ≡ without_mark (in_slot (slots_of c.args.self.now) c.index-slot.result.now).name (marks_in_table c.args.self.now))
taken c =
    let table = c.args.self.now in
    let slot = c.index-slot.result.now in
    let there = slot_there (slots_of table) table.by_name.items c.args.rank slot c.requires.table.names_once c.requires.there c.index-slot.ensures in
    let size : c.len-last.result ≡ length (slots_of table) = c.len-last.ensures ∙ table.marks.ok.0 ∙ sym (seen_length table.marks.items) in
    let last = last_there (slots_of table) slot c.len-last.result size there in
    let all : length (slots_of table) ≡ (c.len-last.result - 1) + 1 = omega (arith, size, there) in
    let items : length table.marks.items ≡ (c.len-last.result - 1) + 1 = sym (seen_length table.marks.items) ∙ all in
    let here = slot_read table.marks.items slot c.index.result.now (kept_there table.marks.items slot there) c.index.ensures in
    let end = slot_read table.marks.items (c.len-last.result - 1) c.index-2.result.now (kept_there table.marks.items (c.len-last.result - 1) last) c.index-2.ensures in
    taken_table (slots_of table) (seen_all c.swap_remove.new.self.items) table.by_name.items c.renumber.new.numbers.items table.in_order.items c.renumber-2.new.numbers.items slot (c.len-last.result - 1) c.args.rank c.rank_of-last_rank.result c.count_before-at.result c.count_before-last_at.result (seen_mark c.index.result.now) (seen_mark c.index-2.result.now)
    c.requires.table all there c.requires.there (number_read table.by_name.items c.args.rank slot 0 c.requires.there c.index-slot.ensures) c.rank_of-last_rank.ensures.there c.rank_of-last_rank.ensures.read here c.count_before-at.ensures end c.count_before-last_at.ensures
    (ap seen_all c.swap_remove.ensures.items ∙ seen_down table.marks.items slot (c.len-last.result - 1) c.swap_remove.result items) c.renumber.ensures c.renumber-2.ensures

pub returns-clause-table : goal.returns-clause-table
returns-clause-table c = (taken c).0

pub returns-clause-marks : goal.returns-clause-marks
returns-clause-marks c =
    let table = c.args.self.now in
    (taken c).1 ∙ ap (λ v. without_mark (in_slot (slots_of table) v).name (marks_in_table table)) (sym (number_read table.by_name.items c.args.rank c.index-slot.result.now 0 c.requires.there c.index-slot.ensures))
