use Rattle.std.proofs.Common.{◌≡◌, ◌∙◌, List, ap, length, subst, sym}
use Rattle.rt_plans.specs.DocValue.{DocValue}
use Rattle.rt_marks.specs.Marks.{AreInOrder, Mark, comes_before, find_last}
use Rattle.rt_marks.specs.Seen.{spotted}
use Rattle.rt_store.specs.Cells.{text_of}
use Rattle.rt_text.specs.Widgets.{AreSiteMarks, stretch_by}
use Rattle.rt_tagcmd.proofs.ShownMarks.{all_shown, both_ends}
use Rattle.rt_tagcmd.proofs.nearest.last_shown.Goals as goal

pub returns-then-shows_all : goal.returns-then-shows_all
returns-then-shows_all g c =
    let view = c.args.view.now in
    let n = length (text_of view.doc.cells) in
    let ends = both_ends (stretch_by view).begin (stretch_by view).end n (sym c.shows_all.ensures ∙ c.if-shows_all.true) in
    let all : c.marks-marks.result.now ≡ view.doc.marks = c.marks-marks.ensures.value ∙ ap (λ (d : DocValue). d.marks) c.doc.ensures in
    let site : AreSiteMarks n view.doc.marks = subst (λ (d : DocValue). AreSiteMarks (length (text_of d.cells)) d.marks) c.doc.ensures c.marks-marks.ensures.site in
    let order : AreInOrder view.doc.marks = subst AreInOrder all c.order.ensures.in_order in
    c.last_until.ensures ∙ ap (λ (v : List Mark). find_last (λ m. comes_before m (spotted c.args.here.now)) v) (all ∙ sym (all_shown n (stretch_by view) view.doc.marks ends.0 ends.1 site order))
