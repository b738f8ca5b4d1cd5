use Rattle.std.proofs.Common.{sym, arith}
use Rattle.std.proofs.lemmas.List.{length-map}
use Rattle.rt_store.specs.Cells.{visible_of}
use Rattle.rt_lines.proofs.Places.{place_of_within}
use Rattle.rt_lines.proofs.limits.line_at.Goals as goal

pub line_of-requires : goal.line_of-requires
line_of-requires g c =
    let cells = g.S.TextStore.list c.args.store.now in
    let within = place_of_within cells c.args.stamp c.in_ok-place.place (g.met.S.TextStore.ends c.args.store.now) (sym c.in_ok-place.ensures) in
    omega (arith, within, length-map (visible_of cells) (λ cell. cell.ch))
