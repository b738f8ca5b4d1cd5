use Rattle.std.proofs.Common.{◌≡◌, ◌∙◌, None, Some, ap, refl, sym}
use Rattle.rt_marks.specs.Marks.{marks_with_gravity, mark_of_name}
use Rattle.rt_marks.specs.Seen.{in_slot}
use Rattle.rt_marks.specs.Tables.{marks_in_table, slots_of}
use Rattle.rt_marks.proofs.Edits.{gravity_of_found, gravity_of_none}
use Rattle.rt_marks.proofs.marks.Marks.set_gravity.Goals as goal

pub returns-in-Ok-clause-marks : goal.returns-in-Ok-clause-marks
returns-in-Ok-clause-marks c =
    let table = c.self.inside.table in
    c.set_gravity.ensures.marks ∙ gravity_of_found c.args.name.now (marks_in_table table) c.args.gravity (in_slot (slots_of table) c.in-Ok.slot) c.in-Ok.ensures.mark ∙ ap (marks_with_gravity c.args.name.now c.args.gravity) c.self.view_is

pub returns-in-Ok-clause-answer : goal.returns-in-Ok-clause-answer
returns-in-Ok-clause-answer c =
    let some : mark_of_name c.args.name.now c.args.self.now ≡ Some (in_slot (slots_of c.self.inside.table) c.in-Ok.slot) = ap (mark_of_name c.args.name.now) (sym c.self.view_is) ∙ c.in-Ok.ensures.mark in
    rw some refl

pub returns-in-Err-clause-marks : goal.returns-in-Err-clause-marks
returns-in-Err-clause-marks c = gravity_of_none c.args.name.now c.args.self.now c.args.gravity (ap (mark_of_name c.args.name.now) (sym c.self.view_is) ∙ c.in-Err.ensures.none)

pub returns-in-Err-clause-answer : goal.returns-in-Err-clause-answer
returns-in-Err-clause-answer c =
    let none : mark_of_name c.args.name.now c.args.self.now ≡ None = ap (mark_of_name c.args.name.now) (sym c.self.view_is) ∙ c.in-Err.ensures.none in
    rw none refl
