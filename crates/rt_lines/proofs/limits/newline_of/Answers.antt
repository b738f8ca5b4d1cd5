use Rattle.std.proofs.Common.{arith}
use Rattle.std.proofs.lemmas.List.{length-map}
use Rattle.rt_store.specs.Cells.{text_of, visible_of}
use Rattle.rt_lines.proofs.Lines.{after_within, end_is}
use Rattle.rt_lines.proofs.limits.newline_of.Goals as goal

pub cell_at-requires : goal.cell_at-requires
cell_at-requires g c =
    let cells = g.S.TextStore.list c.args.store.now in
    let end = end_is c.args.line (text_of cells) c.requires.first c.requires.last in
    omega (arith, end, c.line_after.ensures, after_within c.args.line (text_of cells), length-map (visible_of cells) (λ cell. cell.ch))
