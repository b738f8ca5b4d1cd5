use Rattle.std.proofs.Common.{◌∙◌, ap, sym, arith}
use Rattle.rt_ops.specs.Operations.{stamp_of}
use Rattle.rt_rows.specs.Places.{nothing}
use Rattle.rt_rows.specs.Rows.{DeletesInRow, deletes, stamp_in}
use Rattle.rt_rows.proofs.Following.{from_past, row_stamp}
use Rattle.rt_rows.proofs.deletes.DeleteRow.stamp_at.Goals as goal

pub returns-then-place-len : goal.returns-then-place-len
returns-then-place-len c =
    let row : DeletesInRow = c.args.self.now in
    c.stamp_at.ensures ∙ ap (λ (r : DeletesInRow). stamp_in r.start c.args.place) c.self.view_is
    ∙ row_stamp row.start deletes row.spans c.args.place nothing (omega (arith, c.if-place-len.true, c.len.ensures.len))

pub returns-else-place-len : goal.returns-else-place-len
returns-else-place-len c =
    let row : DeletesInRow = c.args.self.now in
    ap stamp_of (sym (from_past row.start deletes 0 row.spans c.args.place nothing (omega (arith, c.if-place-len.false, c.len.ensures.len))))
