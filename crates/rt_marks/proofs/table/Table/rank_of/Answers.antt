use Rattle.std.proofs.Common.{◌≡◌, ◌∙◌, ap, subst, sym, ◌<◌}
use Rattle.rt_marks.specs.Marks.{Mark}
use Rattle.rt_marks.specs.Seen.{IsGap, in_slot, names_of_marks}
use Rattle.rt_marks.specs.Tables.{by_names, slots_of}
use Rattle.rt_marks.proofs.Searching.{rank_found, same_slot}
use Rattle.rt_marks.proofs.Tables.{seen_length, slot_read}
use Rattle.rt_marks.proofs.table.Table.rank_of.Goals as goal

pub returns-in-Ok-clause-read : goal.returns-in-Ok-clause-read
returns-in-Ok-clause-read c =
    let table = c.args.self.now in
    let read = slot_read table.marks.items c.args.slot c.index.result.now (subst (λ v. c.args.slot < v) (seen_length table.marks.items) c.requires.there) c.index.ensures in
    let name : (in_slot (slots_of table) c.args.slot).name ≡ c.as_str.result.now = ap (λ (m : Mark). m.name) read ∙ sym c.as_str.ensures.value in
    same_slot (slots_of table) table.by_name.items table.in_order.items c.in-Ok.rank 0 c.args.slot c.requires.table c.in-Ok.ensures.bound c.requires.there (c.in-Ok.ensures.found 0 ∙ sym name)

pub returns-in-Err-clause-there : goal.returns-in-Err-clause-there
returns-in-Err-clause-there c =
    let table = c.args.self.now in
    let read = slot_read table.marks.items c.args.slot c.index.result.now (subst (λ v. c.args.slot < v) (seen_length table.marks.items) c.requires.there) c.index.ensures in
    let name : (in_slot (slots_of table) c.args.slot).name ≡ c.as_str.result.now = ap (λ (m : Mark). m.name) read ∙ sym c.as_str.ensures.value in
    absurd (rank_found (slots_of table) table.by_name.items table.in_order.items c.args.slot c.in-Err.gap c.requires.table c.requires.there (subst (λ v. IsGap v (names_of_marks (by_names table)) c.in-Err.gap) (sym name) c.in-Err.ensures.gap))

pub returns-in-Err-clause-read : goal.returns-in-Err-clause-read
returns-in-Err-clause-read c =
    let table = c.args.self.now in
    let read = slot_read table.marks.items c.args.slot c.index.result.now (subst (λ v. c.args.slot < v) (seen_length table.marks.items) c.requires.there) c.index.ensures in
    let name : (in_slot (slots_of table) c.args.slot).name ≡ c.as_str.result.now = ap (λ (m : Mark). m.name) read ∙ sym c.as_str.ensures.value in
    absurd (rank_found (slots_of table) table.by_name.items table.in_order.items c.args.slot c.in-Err.gap c.requires.table c.requires.there (subst (λ v. IsGap v (names_of_marks (by_names table)) c.in-Err.gap) (sym name) c.in-Err.ensures.gap))
