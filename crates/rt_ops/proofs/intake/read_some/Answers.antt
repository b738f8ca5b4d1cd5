use Rattle.std.proofs.Common.{◌<◌, inr, arith}
use Rattle.rt_ops.proofs.Unseen.{gave_one}
use Rattle.rt_ops.proofs.intake.read_some.Goals as goal

pub returns-then-n-bounds-clause-unseen : goal.returns-then-n-bounds-clause-unseen
returns-then-n-bounds-clause-unseen g c =
    let e = c.in-Ok.ensures in
    let some : 0 < c.in-Ok.n = omega (arith, c.if-n-bounds.true) in
    λ is same. inr (gave_one g.R.Source.stream _ _ c.in-Ok.n c.read_piece.new.buf e.bytes.0 e.calls some e.within)

pub returns-clause-gave : goal.returns-clause-gave
returns-clause-gave g c = λ some.
    let e = c.in-Ok.ensures in
    gave_one g.R.Source.stream _ _ c.in-Ok.n c.read_piece.new.buf e.bytes.0 e.calls some e.within
