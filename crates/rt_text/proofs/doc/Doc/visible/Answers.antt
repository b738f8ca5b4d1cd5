use Rattle.std.proofs.Common.{◌∙◌, ap, length, sym}
use Rattle.rt_store.specs.Cells.{text_of}
use Rattle.rt_tags.specs.States.{state_at}
use Rattle.rt_plans.proofs.PlaceLaws.{length_text}
use Rattle.rt_store.proofs.Shown.{text_shown}
use Rattle.rt_text.proofs.doc.Doc.visible.Goals as goal

pub returns : goal.returns
returns g c =
    let kept = g.S.TextStore.list c.kept.result.0.now in
    c.visible.ensures ∙ sym (length_text kept) ∙ ap length (sym (text_shown (state_at c.kept.result.1.now) kept)) ∙ ap (λ cells. length (text_of cells)) c.kept.ensures.cells
