use Rattle.std.proofs.Common.{arith}
use Rattle.rt_store.specs.Cells.{text_of}
use Rattle.rt_plans.proofs.PlaceLaws.{text_within, newlines_within, newlines_front}
use Rattle.rt_text.proofs.distance.distance_of.Goals as goal

pub difference-requires : goal.difference-requires
difference-requires g c =
    let cells = g.S.TextStore.list c.args.store.now in
    (omega (arith, text_within cells), omega (arith, text_within cells))

pub difference-requires-in-Lines : goal.difference-requires-in-Lines
difference-requires-in-Lines g c =
    let cells = g.S.TextStore.list c.args.store.now in
    let t = text_of cells in
    (omega (arith, text_within cells, newlines_within t, newlines_front t c.args.from, c.line_of.ensures), omega (arith, text_within cells, newlines_within t, newlines_front t c.args.to, c.line_of-in-Lines.ensures))
