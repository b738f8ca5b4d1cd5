use Rattle.std.proofs.Common.{◌∙◌, ap, string_bytes}
use Rattle.rt_marks.specs.declared.gravity.Gravity.TheVariants.{Right}
use Rattle.rt_marks.specs.Marks.{marks_set, with_mark}
use Rattle.rt_marks.specs.Seen.{in_slot, in_slots, seen_all}
use Rattle.rt_marks.specs.Tables.{marks_in_table, slots_of}
use Rattle.rt_marks.proofs.Edits.{set_of_found, set_of_none}
use Rattle.rt_marks.proofs.marks.Marks.set.Goals as goal

pub returns-in-Ok-clause-ok : goal.returns-in-Ok-clause-ok
returns-in-Ok-clause-ok c =
    let table = c.self.inside.table in
    c.set_place.ensures.marks ∙ set_of_found c.args.name.now (marks_in_table table) c.args.place (in_slot (slots_of table) c.in-Ok.slot) c.in-Ok.ensures.name c.in-Ok.ensures.mark ∙ ap (marks_set c.args.name.now c.args.place) c.self.view_is

pub returns-in_ok-reserve-in-Err-clause-ok : goal.returns-in_ok-reserve-in-Err-clause-ok
returns-in_ok-reserve-in-Err-clause-ok c =
    let table = c.self.inside.table in
    let name = c.in_ok-name-in-Err.name in
    let reserved = c.in_ok-reserve-in-Err.ensures in
    c.add.ensures.marks ∙ ap (with_mark (record { name = string_bytes name; place = c.args.place; gravity = Right })) (λ i. in_slots (seen_all (reserved.marks i)) (reserved.in_order i))
    ∙ set_of_none c.args.name.now (marks_in_table table) c.args.place (string_bytes name) c.in_ok-name-in-Err.ensures.ok c.in-Err.ensures.none ∙ ap (marks_set c.args.name.now c.args.place) c.self.view_is
