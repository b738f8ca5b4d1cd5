use Rattle.std.proofs.Common.{◌∙◌, ◌++◌, ap, map}
use Rattle.std.proofs.lemmas.List.{take_all}
use Rattle.rt_marks.specs.Marks.{Mark}
use Rattle.rt_marks.specs.Seen.{spotted}
use Rattle.rt_text.specs.Widgets.{marks_of}
use Rattle.rt_tagcmd.specs.declared.element.Key.TheVariants as keys
use Rattle.rt_tagcmd.specs.Elements.{element_at}
use Rattle.rt_tagcmd.proofs.Pushing.{within_made}
use Rattle.rt_tagcmd.proofs.dumped_marks.push_marks.Goals as goal

pub returns-clause-ok : goal.returns-clause-ok
returns-clause-ok g c =
    let all = take_all c.loop-mark.mark-index c.deref-mark-items.result.now c.loop-mark-test.false ∙ c.deref-mark-items.ensures.value in
    c.loop-mark.invariant
    ∙ ap (λ v. c.args.elements.now.items ++ map (λ (m : Mark). element_at keys.Mark m.name m.place) (map spotted v)) all
    ∙ ap (λ v. c.args.elements.now.items ++ map (λ (m : Mark). element_at keys.Mark m.name m.place) v) c.in_ok-marks.ensures.ok
    ∙ ap (λ v. c.args.elements.now.items ++ v) (within_made c.args.stretch (λ (m : Mark). element_at keys.Mark m.name m.place) (marks_of c.args.view.now))
