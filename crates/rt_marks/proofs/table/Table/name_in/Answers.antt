use Rattle.std.proofs.Common.{◌∙◌, ap, sym}
use Rattle.rt_marks.specs.Marks.{Mark}
use Rattle.rt_marks.proofs.Tables.{kept_there, slot_read}
use Rattle.rt_marks.proofs.table.Table.name_in.Goals as goal

pub returns : goal.returns
returns c =
    let items = c.args.self.now.marks.items in
    c.as_str.ensures.value ∙ sym (ap (λ (m : Mark). m.name) (slot_read items c.args.slot c.index.result.now (kept_there items c.args.slot c.requires) c.index.ensures))
