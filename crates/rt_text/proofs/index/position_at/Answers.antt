use Rattle.std.proofs.Common.{◌≡◌, ◌-◌, arith, take}
use Rattle.rt_stamps.specs.Places.{newlines}
use Rattle.rt_store.specs.Cells.{text_of}
use Rattle.rt_plans.proofs.PlaceLaws.{ends_text, last_position, line_starts}
use Rattle.rt_text.proofs.index.position_at.Goals as goal

pub returns-then-line-lines : goal.returns-then-line-lines
returns-then-line-lines g c =
    let cells = g.S.TextStore.list c.args.store.now in
    last_position (text_of cells) c.args.place c.line_of-line.result (ends_text cells (g.met.S.TextStore.ends c.args.store.now)) c.requires c.line_of-line.ensures (omega arith)

pub overflow_sub-result : goal.overflow_sub-result
overflow_sub-result g c =
    let t = text_of (g.S.TextStore.list c.args.store.now) in
    let before : c.line_of-line.result - 1 ≡ newlines (take c.args.place t) = omega arith in
    omega (arith, rw before at c.line_start.ensures, line_starts t c.args.place)
