use Rattle.std.proofs.Common.{◌≡◌, ◌∙◌, ap, arith, length, sym}
use Rattle.std.proofs.lemmas.List.{length-map}
use Rattle.rt_store.specs.Cells.{text_of, visible_of}
use Rattle.rt_tags.specs.States.{state_at}
use Rattle.rt_store.proofs.Shown.{text_shown}
use Rattle.rt_lines.specs.Stretches.{stretch_of}
use Rattle.rt_lines.proofs.Shown.{stretch_shown}
use Rattle.rt_text.proofs.doc.Doc.stretch.Goals as goal

pub stretch-requires : goal.stretch-requires
stretch-requires g c = omega (arith, c.kept.ensures.few, c.kept.ensures.most)

pub returns-clause-value : goal.returns-clause-value
returns-clause-value g c =
    let kept = g.S.TextStore.list c.kept.result.0.now in
    c.stretch.ensures.value ∙ sym (stretch_shown (state_at c.kept.result.1.now) kept c.args.limits) ∙ ap (λ cells. stretch_of cells c.args.limits) c.kept.ensures.cells

pub returns-clause-within : goal.returns-clause-within
returns-clause-within g c =
    let kept = g.S.TextStore.list c.kept.result.0.now in
    let text : text_of kept ≡ text_of c.args.self.now.cells = sym (text_shown (state_at c.kept.result.1.now) kept) ∙ ap text_of c.kept.ensures.cells in
    omega (arith, c.stretch.ensures.within, ap length text, length-map (visible_of kept) (λ cell. cell.ch))
