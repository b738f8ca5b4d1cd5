use Rattle.std.proofs.Common.{◌∙◌, ap, arith, refl, sym}
use Rattle.rt_store.specs.Cells.{text_of}
use Rattle.rt_tags.specs.States.{state_at}
use Rattle.rt_store.proofs.Shown.{text_shown}
use Rattle.rt_text.proofs.PartLines.{lines_of_limits}
use Rattle.rt_lines.specs.Stretches.{stretch_of}
use Rattle.rt_lines.proofs.Shown.{stretch_shown}
use Rattle.rt_text.proofs.doc.Doc.between.Goals as goal

pub stretch-requires : goal.stretch-requires
stretch-requires g c = omega (arith, c.kept.ensures.few, c.kept.ensures.most)

pub returns-clause-text : goal.returns-clause-text
returns-clause-text g c =
    let kept = g.S.TextStore.list c.kept.result.0.now in
    sym (text_shown (state_at c.kept.result.1.now) kept) ∙ ap text_of c.kept.ensures.cells

pub returns-clause-stretch : goal.returns-clause-stretch
returns-clause-stretch g c =
    let kept = g.S.TextStore.list c.kept.result.0.now in
    c.stretch.ensures.value ∙ sym (stretch_shown (state_at c.kept.result.1.now) kept c.args.limits) ∙ ap (λ cells. stretch_of cells c.args.limits) c.kept.ensures.cells

pub returns-clause-lines : goal.returns-clause-lines
returns-clause-lines g c =
    let kept = g.S.TextStore.list c.kept.result.0.now in
    lines_of_limits kept c.args.limits c.stretch.result (text_of kept) (g.met.S.TextStore.ends c.kept.result.0.now) c.stretch.ensures.value refl

pub returns-clause-few : goal.returns-clause-few
returns-clause-few g c = omega (arith, c.kept.ensures.few, c.kept.ensures.most)
