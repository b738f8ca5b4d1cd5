use Rattle.std.proofs.Common.{◌≡◌, ap, ◌∙◌, sym, arith, length}
use Rattle.std.proofs.lemmas.List.{length-map}
use Rattle.rt_store.specs.Cells.{text_of, visible_of}
use Rattle.rt_stamps.specs.Places.{newlines, after_newlines}
use Rattle.rt_lines.proofs.Lines.{after_all, end_is, next_start}
use Rattle.rt_lines.proofs.Places.{ends_text}
use Rattle.rt_lines.proofs.limits.line_after.Goals as goal

pub returns-then-line-lines : goal.returns-then-line-lines
returns-then-line-lines g c =
    let cells = g.S.TextStore.list c.args.store.now in
    let all = after_all (text_of cells) (ends_text cells (g.met.S.TextStore.ends c.args.store.now)) in
    let last : c.args.line ≡ newlines (text_of cells) = c.if-line-lines.true ∙ c.lines.ensures in
    let same : after_newlines c.args.line (text_of cells) ≡ length (text_of cells) = ap (λ k. after_newlines k (text_of cells)) last ∙ all in
    let end = end_is c.args.line (text_of cells) c.requires.first c.requires.last in
    omega (arith, same, end, c.visible.ensures, length-map (visible_of cells) (λ cell. cell.ch))

pub returns-else-line-lines : goal.returns-else-line-lines
returns-else-line-lines g c =
    let cells = g.S.TextStore.list c.args.store.now in
    let end = end_is c.args.line (text_of cells) c.requires.first c.requires.last in
    c.line_start.ensures ∙ next_start c.args.line (text_of cells) ∙ sym end
