use Rattle.std.proofs.Common.{◌∙◌, ℕ, ap, sym}
use Rattle.rt_marks.specs.Marks.{Mark, put_mark}
use Rattle.rt_marks.specs.Seen.{in_slot}
use Rattle.rt_marks.specs.Tables.{marks_in_table, slots_of}
use Rattle.rt_marks.proofs.Tables.{kept_there, slot_read}
use Rattle.rt_marks.proofs.table.Table.set_gravity.Goals as goal

pub returns-clause-marks : goal.returns-clause-marks
returns-clause-marks c =
    let table = c.args.self.now in
    let read = slot_read table.marks.items c.args.slot c.index.result.now (kept_there table.marks.items c.args.slot c.requires.there) c.index.ensures in
    c.move_to.ensures.marks ∙ ap (λ (v : ℕ). put_mark (record (in_slot (slots_of table) c.args.slot) { place = v; gravity = c.args.gravity }) (marks_in_table table)) (sym (ap (λ (m : Mark). m.place) read))
