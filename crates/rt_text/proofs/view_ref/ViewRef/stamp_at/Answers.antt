use Rattle.std.proofs.Common.{◌≡◌, ◌∙◌, ap, arith, length, sym}
use Rattle.std.proofs.lemmas.List.{length-map}
use Rattle.rt_store.specs.Cells.{text_of, visible_of}
use Rattle.rt_store.proofs.Shown.{text_shown}
use Rattle.rt_tags.specs.States.{state_at}
use Rattle.rt_text.specs.Cursors.{stamp_at}
use Rattle.rt_text.specs.Widgets.{ViewValue}
use Rattle.rt_text.proofs.CursorLaws.{none_there, stamp_there}
use Rattle.rt_text.proofs.view_ref.ViewRef.stamp_at.Goals as goal

pub cell_at-requires : goal.cell_at-requires
cell_at-requires g c =
    let kept = g.S.TextStore.list c.kept.result.0.now in
    let text : text_of kept ≡ text_of c.self.inside.doc.now.cells = sym (text_shown (state_at c.kept.result.1.now) kept) ∙ ap text_of c.kept.ensures.cells in
    let inside = c.if-place-stretch.false in
    omega (arith, inside, c.stretch-stretch.ensures.within, ap length text, length-map (visible_of kept) (λ cell. cell.ch))

pub returns-then-place-stretch : goal.returns-then-place-stretch
returns-then-place-stretch g c =
    none_there c.self.inside.doc.now.cells c.limits.result c.stretch-stretch.result c.args.place c.stretch-stretch.ensures.value c.if-place-stretch.true
    ∙ ap (λ l. stamp_at l c.args.place c.self.inside.doc.now.cells) c.limits.ensures ∙ ap (λ (v : ViewValue). stamp_at v.own.limits c.args.place v.doc.cells) c.self.view_is

pub returns : goal.returns
returns g c =
    let kept = g.S.TextStore.list c.kept.result.0.now in
    stamp_there (state_at c.kept.result.1.now) kept c.self.inside.doc.now.cells c.limits.result c.stretch-stretch.result c.kept.ensures.cells c.stretch-stretch.ensures.value
    c.args.place c.cell_at.result (let inside = c.if-place-stretch.false in omega (arith, inside)) c.cell_at.ensures
    ∙ ap (λ l. stamp_at l c.args.place c.self.inside.doc.now.cells) c.limits.ensures ∙ ap (λ (v : ViewValue). stamp_at v.own.limits c.args.place v.doc.cells) c.self.view_is
