use Rattle.std.proofs.Common.{◌≡◌, ap, length, subst, ◌∙◌}
use Rattle.rt_plans.specs.DocValue.{DocValue}
use Rattle.rt_marks.specs.Marks.{HaveOwnNames}
use Rattle.rt_store.specs.Cells.{text_of}
use Rattle.rt_text.specs.Widgets.{AreSiteMarks}
use Rattle.rt_tagcmd.proofs.ShownMarks.{AreShown, marks_are_shown}
use Rattle.rt_tagcmd.proofs.seen.order.Goals as goal

pub returns : goal.returns
returns g c =
    let view = c.args.view.now in
    let n = length (text_of c.doc.result.now.cells) in
    let same : c.doc.result.now.marks ≡ view.doc.marks = ap (λ (d : DocValue). d.marks) c.doc.ensures in
    let site : AreSiteMarks n view.doc.marks = subst (AreSiteMarks n) same c.marks.ensures.site in
    let own : HaveOwnNames view.doc.marks = subst HaveOwnNames (c.marks.ensures.value ∙ same) c.order.ensures.own_names in
    let shown : AreShown view = marks_are_shown view n site own c.widget.ensures.stands.insert_name c.widget.ensures.stands.current_name in
    record { order = shown.order; names = shown.names; named = shown.among; site = (shown.current, shown.site); shown = shown.shown }
