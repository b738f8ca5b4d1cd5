use Rattle.std.proofs.Common.{◌≡◌, ◌+◌, ◌-◌, ◌<◌, ◌≤◌, ◌∙◌, length, ap, arith, sym}
use Rattle.rt_stamps.specs.Places.{line_of, line_start, newlines}
use Rattle.rt_store.specs.Cells.{text_of}
use Rattle.rt_lines.specs.Stretches.{part}
use Rattle.rt_lines.proofs.Parts.{part_length}
use Rattle.rt_search.proofs.Lines.{line_there}
use Rattle.rt_search.proofs.Parts.{newlines_in, start_in}
use Rattle.rt_search.proofs.part.Part.line_at.Goals as goal

pub line_start-requires : goal.line_start-requires
line_start-requires g c =
    let cells = g.S.TextStore.list c.self.inside.store.now in
    let text = text_of cells in
    let n : length c.args.self.now ≡ c.self.inside.stretch.end - c.self.inside.stretch.begin = ap length (sym c.self.view_is) ∙ part_length c.self.inside.stretch text c.self.invariant.within in
    let within : c.self.inside.stretch.begin + c.args.place < length text = omega (arith, n, c.requires, c.self.invariant.within) in
    let there = line_there cells (c.self.inside.stretch.begin + c.args.place) (g.met.S.TextStore.ends c.self.inside.store.now) within in
    (omega (arith, c.line_of-line.ensures), omega (arith, c.line_of-line.ensures, there))

pub overflow_sub-result : goal.overflow_sub-result
overflow_sub-result g c =
    let text = text_of (g.S.TextStore.list c.self.inside.store.now) in
    let n : length c.args.self.now ≡ c.self.inside.stretch.end - c.self.inside.stretch.begin = ap length (sym c.self.view_is) ∙ part_length c.self.inside.stretch text c.self.invariant.within in
    let on = newlines_in c.self.inside.stretch c.args.place text (omega (arith, n, c.requires)) in
    omega (arith, on, c.line_of-line.ensures, c.line_of.ensures)

pub returns-clause-line : goal.returns-clause-line
returns-clause-line g c =
    let text = text_of (g.S.TextStore.list c.self.inside.store.now) in
    let stretch = c.self.inside.stretch in
    let n : length c.args.self.now ≡ stretch.end - stretch.begin = ap length (sym c.self.view_is) ∙ part_length stretch text c.self.invariant.within in
    let on = newlines_in stretch c.args.place text (omega (arith, n, c.requires)) in
    let told : c.line_of-line.result - c.line_of.result + 1 ≡ line_of (part stretch text) c.args.place = omega (arith, on, c.line_of-line.ensures, c.line_of.ensures) in
    told ∙ ap (λ t. line_of t c.args.place) c.self.view_is

pub returns-clause-start : goal.returns-clause-start
returns-clause-start g c =
    let text = text_of (g.S.TextStore.list c.self.inside.store.now) in
    let stretch = c.self.inside.stretch in
    let n : length c.args.self.now ≡ stretch.end - stretch.begin = ap length (sym c.self.view_is) ∙ part_length stretch text c.self.invariant.within in
    let at = start_in stretch c.args.place text (omega (arith, n, c.requires)) in
    let begun : c.line_start.result ≡ line_start text (line_of text (stretch.begin + c.args.place)) = c.line_start.ensures ∙ ap (line_start text) c.line_of-line.ensures in
    let told : c.saturating_sub-start.result ≡ line_start text (line_of text (stretch.begin + c.args.place)) - stretch.begin = omega (arith, begun, c.saturating_sub-start.ensures) in
    told ∙ at ∙ ap (λ t. line_start t (line_of t c.args.place)) c.self.view_is
