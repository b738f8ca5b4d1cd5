use Rattle.std.proofs.Common.{◌≡◌, ◌∙◌, ◌∷◌, List, ap, map}
use Rattle.rt_plans.specs.DocValue.{DocValue}
use Rattle.rt_marks.specs.Marks.{Mark, in_order, with_mark}
use Rattle.rt_marks.specs.Seen.{spotted}
use Rattle.rt_text.specs.Widgets.{mark_seen, widget_shown, stretch_by}
use Rattle.rt_lines.specs.declared.stretch.Stretch.{Stretch}
use Rattle.rt_tagcmd.specs.MarkLists.{marks_from}
use Rattle.rt_tagcmd.proofs.mark_list.sorted.Goals as goal

pub returns-clause-ok : goal.returns-clause-ok
returns-clause-ok g c =
    let view = c.args.view.now in
    let from = c.args.from in
    let behind = c.args.behind in
    let own = widget_shown view in
    let site = map (mark_seen (stretch_by view)) view.doc.marks in
    let marks : c.marks-marks.result.now ≡ view.doc.marks = c.marks-marks.ensures.value ∙ ap (λ (d : DocValue). d.marks) c.doc.ensures in
    let first : in_order (map spotted c.in_ok-spots.spots.items) ≡ marks_from from behind (in_order site) =
    c.in_ok-spots.ensures.ok
    ∙ ap (λ (v : List Mark). marks_from from behind (in_order (map (mark_seen c.stretch.result) v))) marks
    ∙ ap (λ (s : Stretch). marks_from from behind (in_order (map (mark_seen s) view.doc.marks))) c.stretch.ensures.value in
    let second : in_order (map spotted c.push_within.new.spots.items) ≡ marks_from from behind (with_mark own.current (in_order site)) =
    c.in_ok-push_within.ensures.ok site first
    ∙ ap (λ (x : Mark). marks_from from behind (with_mark x (in_order site))) c.own_spot.ensures in
    c.in_ok-sort.ensures.ok
    ∙ c.in_ok-push_within-2.ensures.ok (own.current ∷ site) second
    ∙ ap (λ (x : Mark). marks_from from behind (with_mark x (with_mark own.current (in_order site)))) c.own_spot-2.ensures
