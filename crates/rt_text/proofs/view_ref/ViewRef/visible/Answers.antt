use Rattle.std.proofs.Common.{◌≤◌, ap, arith, length, subst}
use Rattle.rt_store.specs.Cells.{text_of}
use Rattle.rt_lines.specs.declared.stretch.Stretch.{Stretch}
use Rattle.rt_text.proofs.SeenLaws.{length_seen}
use Rattle.rt_text.proofs.view_ref.ViewRef.visible.Goals as goal

pub overflow_sub-result : goal.overflow_sub-result
overflow_sub-result g c = omega (arith, c.stretch-stretch.ensures.some)

pub returns : goal.returns
returns g c =
    let view = c.args.self.now in
    let is = c.stretch-stretch.ensures.value in
    let long = length_seen view (subst (λ (s : Stretch). s.end ≤ length (text_of view.doc.cells)) is c.stretch-stretch.ensures.within) in
    omega (arith, long, ap (λ (s : Stretch). s.end) is, ap (λ (s : Stretch). s.begin) is)
