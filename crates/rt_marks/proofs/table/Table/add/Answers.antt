use Rattle.std.proofs.Common.{◌≡◌, ◌∙◌, ap, subst, sym, length, [], ◌∷◌, ◌++◌}
use Rattle.std.specs.List.{insert}
use Rattle.rt_marks.specs.Seen.{IsIndexed, in_slots, seen_mark, seen_all}
use Rattle.rt_marks.specs.Tables.{slots_of}
use Rattle.rt_marks.proofs.Changes.{added_indexed, added_view}
use Rattle.rt_marks.proofs.Slots.{are_ordered}
use Rattle.rt_marks.proofs.Tables.{seen_length, seen_push}
use Rattle.rt_marks.proofs.table.Table.add.Goals as goal

pub count_before-at-requires : goal.count_before-at-requires
count_before-at-requires c = are_ordered _ _ _ c.requires.table

-- the three vectors then
slots_then : (c : goal.After-insert_number-2) → seen_all c.push_reserved.new.self.items ≡ slots_of c.args.self.now ++ seen_mark c.args.mark ∷ []
slots_then c = ap seen_all c.push_reserved.ensures.items ∙ seen_push c.args.self.now.marks.items c.args.mark

pub returns-clause-table : goal.returns-clause-table
returns-clause-table c =
    let table = c.args.self.now in
    let now = slots_then c in
    let slot : c.len-slot.result ≡ length (slots_of table) = c.len-slot.ensures ∙ table.marks.ok.0 ∙ sym (seen_length table.marks.items) in
    let names = c.insert_number.ensures ∙ ap (insert table.by_name.items c.args.gap) slot in
    let order = c.insert_number-2.ensures ∙ ap (insert table.in_order.items c.count_before-at.result) slot in
    subst (λ v. IsIndexed v c.insert_number.new.numbers.items c.insert_number-2.new.numbers.items) (sym now)
    (subst (λ v. IsIndexed (slots_of table ++ seen_mark c.args.mark ∷ []) v c.insert_number-2.new.numbers.items) (sym names)
    (subst (λ v. IsIndexed (slots_of table ++ seen_mark c.args.mark ∷ []) (insert table.by_name.items c.args.gap (length (slots_of table))) v) (sym order)
    (added_indexed (slots_of table) table.by_name.items table.in_order.items (seen_mark c.args.mark) c.args.gap c.count_before-at.result c.requires.table c.requires.gap c.count_before-at.ensures)))

pub returns-clause-marks : goal.returns-clause-marks
returns-clause-marks c =
    let table = c.args.self.now in
    let slot : c.len-slot.result ≡ length (slots_of table) = c.len-slot.ensures ∙ table.marks.ok.0 ∙ sym (seen_length table.marks.items) in
    let order = c.insert_number-2.ensures ∙ ap (insert table.in_order.items c.count_before-at.result) slot in
    ap (λ v. in_slots v c.insert_number-2.new.numbers.items) (slots_then c) ∙ ap (in_slots (slots_of table ++ seen_mark c.args.mark ∷ [])) order
    ∙ added_view (slots_of table) table.by_name.items table.in_order.items (seen_mark c.args.mark) c.count_before-at.result c.requires.table c.count_before-at.ensures
