use Rattle.std.proofs.Common.{◌≡◌, ◌∙◌, sym, ap}
use Rattle.rt_store.specs.Cells.{text_of}
use Rattle.rt_tags.specs.States.{state_at}
use Rattle.rt_text.specs.Widgets.{ViewValue}
use Rattle.rt_store.proofs.Shown.{text_shown}
use Rattle.rt_text.proofs.view_ref.ViewRef.store.Goals as goal

pub returns-clause-text : goal.returns-clause-text
returns-clause-text g c =
    let kept = g.S.TextStore.list c.kept.result.0.now in
    let text : text_of kept ≡ text_of c.args.self.now.doc.cells = sym (text_shown (state_at c.kept.result.1.now) kept) ∙ ap text_of c.kept.ensures.cells ∙ ap (λ (v : ViewValue). text_of v.doc.cells) c.self.view_is in
    text
