use Rattle.std.proofs.Common.{◌∙◌, ◌<◌, ap, set, subst, sym}
use Rattle.std.proofs.lemmas.List.{map-set}
use Rattle.rt_marks.specs.Marks.{Mark}
use Rattle.rt_marks.specs.Seen.{seen_mark}
use Rattle.rt_marks.specs.Tables.{slots_of}
use Rattle.rt_marks.proofs.Tables.{seen_length, slot_read}
use Rattle.rt_marks.proofs.table.Table.write.Goals as goal

pub returns-clause-marks : goal.returns-clause-marks
returns-clause-marks c =
    let items = c.args.self.now.marks.items in
    let read = slot_read items c.args.slot c.index_mut-mark.result.now (subst (λ v. c.args.slot < v) (seen_length items) c.requires) c.index_mut-mark.ensures.value in
    map-set seen_mark items c.args.slot (record { place = c.args.place; gravity = c.args.gravity; name = c.index_mut-mark.result.now.name })
    ∙ ap (λ (m : Mark). set (slots_of c.args.self.now) c.args.slot (record { name = m.name; place = c.args.place; gravity = c.args.gravity })) (sym read)
