use Rattle.std.proofs.Common.{ap, arith}
use Rattle.rt_stamps.specs.declared.position.Position.{Position}
use Rattle.rt_store.specs.Cells.{text_of}
use Rattle.rt_plans.proofs.PlaceLaws.{length_text}
use Rattle.rt_text.proofs.PartLines.{length_in_part, line_counted, position_in_part}
use Rattle.rt_text.proofs.index.position_within.Goals as goal

pub overflow_add-stretch : goal.overflow_add-stretch
overflow_add-stretch g c =
    let cells = g.S.TextStore.list c.args.store.now in
    omega (arith, c.requires.lines.some, c.requires.place, length_in_part (text_of cells) c.args.stretch c.requires.lines)

pub position_at-position-requires : goal.position_at-position-requires
position_at-position-requires g c =
    let cells = g.S.TextStore.list c.args.store.now in
    omega (arith, c.requires.lines.some, c.requires.lines.within, c.requires.place, length_in_part (text_of cells) c.args.stretch c.requires.lines)

pub line_at-requires : goal.line_at-requires
line_at-requires g c =
    let cells = g.S.TextStore.list c.args.store.now in
    omega (arith, c.requires.lines.some, c.requires.lines.within, length_text cells)

pub overflow_sub-result-2 : goal.overflow_sub-result-2
overflow_sub-result-2 g c =
    let t = text_of (g.S.TextStore.list c.args.store.now) in
    omega (
      arith,
      length_in_part t c.args.stretch c.requires.lines,
      c.requires.place,
      c.line_at.ensures,
      ap (λ (p : Position). p.line) c.position_at-position.ensures,
      line_counted t c.args.stretch c.requires.lines c.args.place c.position_at-position.result.line c.line_at.result (omega (arith, length_in_part t c.args.stretch c.requires.lines, c.requires.place))
          (ap (λ (p : Position). p.line) c.position_at-position.ensures) c.line_at.ensures,
    )

pub returns : goal.returns
returns g c =
    let t = text_of (g.S.TextStore.list c.args.store.now) in
    rw c.line_at.ensures (position_in_part t c.args.stretch c.requires.lines c.args.place c.position_at-position.result.line c.position_at-position.result.character c.requires.place c.position_at-position.ensures)
