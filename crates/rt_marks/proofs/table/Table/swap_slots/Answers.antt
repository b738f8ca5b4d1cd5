use Rattle.std.proofs.Common.{◌≡◌, ◌∙◌, ◌<◌, ap, subst, sym}
use Rattle.rt_marks.specs.Seen.{IsIndexed, in_slots, seen_mark, seen_all}
use Rattle.rt_marks.specs.Tables.{marks_in_table, slots_of}
use Rattle.rt_marks.proofs.Changes.{stands_before}
use Rattle.rt_marks.proofs.Exchanging.{both_stand, seen_swapped, swapped_table}
use Rattle.rt_marks.proofs.Slots.{are_ordered}
use Rattle.rt_marks.proofs.Tables.{kept_there, slot_read}
use Rattle.rt_marks.proofs.table.Table.swap_slots.Goals as goal

pub count_before-a_at-requires : goal.count_before-a_at-requires
count_before-a_at-requires c = are_ordered _ _ _ c.requires.table

pub count_before-b_at-requires : goal.count_before-b_at-requires
count_before-b_at-requires c = are_ordered _ _ _ c.requires.table

pub swap-requires-2-clause-i_in_bounds : goal.swap-requires-2-clause-i_in_bounds
swap-requires-2-clause-i_in_bounds c =
    let table = c.args.self.now in
    let here = slot_read table.marks.items c.args.a c.index.result.now (kept_there table.marks.items c.args.a c.requires.a) c.index.ensures in
    subst (λ v. c.count_before-a_at.result < v) (sym table.in_order.ok.0)
    (stands_before (slots_of table) table.by_name.items table.in_order.items c.args.a c.count_before-a_at.result (seen_mark c.index.result.now) c.requires.table c.requires.a here c.count_before-a_at.ensures)

pub swap-requires-2-clause-j_in_bounds : goal.swap-requires-2-clause-j_in_bounds
swap-requires-2-clause-j_in_bounds c =
    let table = c.args.self.now in
    let here = slot_read table.marks.items c.args.b c.index-2.result.now (kept_there table.marks.items c.args.b c.requires.b) c.index-2.ensures in
    subst (λ v. c.count_before-b_at.result < v) (sym table.in_order.ok.0)
    (stands_before (slots_of table) table.by_name.items table.in_order.items c.args.b c.count_before-b_at.result (seen_mark c.index-2.result.now) c.requires.table c.requires.b here c.count_before-b_at.ensures)

swapped : (c : goal.After-swap-3) → IsIndexed (seen_all c.swap-3.new.self.items) c.swap.new.self.items c.swap-2.new.self.items × (in_slots (seen_all c.swap-3.new.self.items) c.swap-2.new.self.items ≡ marks_in_table c.args.self.now)
swapped c =
    let table = c.args.self.now in
    let S = slots_of table in
    let a_there = kept_there table.marks.items c.args.a c.requires.a in
    let b_there = kept_there table.marks.items c.args.b c.requires.b in
    let a_here = slot_read table.marks.items c.args.a c.index.result.now a_there c.index.ensures in
    let b_here = slot_read table.marks.items c.args.b c.index-2.result.now b_there c.index-2.ensures in
    swapped_table S (seen_all c.swap-3.new.self.items) table.by_name.items c.swap.new.self.items table.in_order.items c.swap-2.new.self.items c.args.a c.args.b c.rank_of-a_rank.result c.rank_of-b_rank.result c.count_before-a_at.result c.count_before-b_at.result
    c.requires.table c.requires.a c.requires.b
    (record { i_within = c.rank_of-a_rank.ensures.there; j_within = c.rank_of-b_rank.ensures.there; i_read = c.rank_of-a_rank.ensures.read; j_read = c.rank_of-b_rank.ensures.read })
    (both_stand S table.by_name.items table.in_order.items c.args.a c.args.b c.count_before-a_at.result c.count_before-b_at.result (seen_mark c.index.result.now) (seen_mark c.index-2.result.now) c.requires.table c.requires.a c.requires.b a_here b_here c.count_before-a_at.ensures c.count_before-b_at.ensures)
    (ap seen_all c.swap-3.ensures.items ∙ seen_swapped table.marks.items c.args.a c.args.b c.index.result.now a_there b_there) c.swap.ensures.items c.swap-2.ensures.items

pub returns-clause-table : goal.returns-clause-table
returns-clause-table c = (swapped c).0

pub returns-clause-marks : goal.returns-clause-marks
returns-clause-marks c = (swapped c).1

pub returns-clause-slots : goal.returns-clause-slots
returns-clause-slots c =
    let table = c.args.self.now in
    ap seen_all c.swap-3.ensures.items
    ∙ seen_swapped table.marks.items c.args.a c.args.b c.index.result.now (kept_there table.marks.items c.args.a c.requires.a) (kept_there table.marks.items c.args.b c.requires.b)
